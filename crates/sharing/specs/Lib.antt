-- Threshold implementation, as definitions: sharings, stages, chains.
pub mod Sharing
pub mod Stages
pub mod Chain
pub mod Inside

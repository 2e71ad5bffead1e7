-- Laws of sharings, stages and chains.
pub mod Sharing
pub mod Output
pub mod Carried
pub mod Tests
pub mod IgnoredShares
pub mod Tables
pub mod Stages
pub mod Spreads
pub mod Independence
pub mod Meetings
pub mod Dependence
pub mod Packing

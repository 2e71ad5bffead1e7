-- The published operations.
pub mod Published
pub mod JoinedRuns
pub mod Promised

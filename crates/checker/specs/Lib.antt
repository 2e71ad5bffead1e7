-- The verdict, its trials and their forecast.
pub mod Verdict
pub mod Trials
pub mod Outcome
pub mod Accepted
pub mod Assurance
pub mod Bench
pub mod Inside

-- The design file.
pub mod Limits
pub mod WellFormed
pub mod Reading
pub mod Errors
pub mod Refused
pub mod Layout
pub mod Heads
pub mod Answers
pub mod Bench
pub mod Inside

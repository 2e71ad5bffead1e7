-- Running a chain.
pub mod Running
pub mod Outcome
pub mod Explained
pub mod Inside

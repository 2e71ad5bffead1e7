-- Producing: the file of a direct sharing.
pub mod Producing
pub mod Explained
pub mod Bench
pub mod Inside

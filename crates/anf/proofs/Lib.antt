-- Laws of normal form.
pub mod SubsetSums
pub mod WordNumbers
pub mod WordSums
pub mod Order
pub mod Terms
pub mod PassingLists
pub mod Degree
pub mod TransformAnswer
pub mod Explained
pub mod Tables
pub mod WordDegree
pub mod Bench

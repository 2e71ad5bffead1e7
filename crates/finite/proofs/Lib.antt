-- Laws of tests, counts, sums, sets, maps and faults.
pub mod Testing
pub mod Counting
pub mod Parts
pub mod Maps
pub mod Xor
pub mod Sums
pub mod Subsets
pub mod Elements
pub mod Faults
pub mod Powers
pub mod Lists
pub mod Copying

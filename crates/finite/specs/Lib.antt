-- Tests, counts and sums over the numbers below n; sets that are numbers; the first fault of a list.
pub mod Tests
pub mod Sums
pub mod Sets
pub mod Maps
pub mod Faults

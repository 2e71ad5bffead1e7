-- Designs made of designs: two joined into one.
pub mod Joining
pub mod Bench
pub mod Inside

-- What only contracts inside the crates need: no published contract and no promise rests on it.
pub mod Blocks
pub mod Outputs

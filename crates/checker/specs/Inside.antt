-- What only contracts inside the crate need: no published contract and no promise rests on it.
pub mod Marks
pub mod Parts

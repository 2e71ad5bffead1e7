-- Laws of the bytes of a design file.
pub mod TermBytes
pub mod Concat
pub mod Overwriting
pub mod ListRecords
pub mod Writes
pub mod Pieces
pub mod Output

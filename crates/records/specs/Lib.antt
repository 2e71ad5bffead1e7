-- A design, and the bytes of its file.
pub mod Design
pub mod Encode
pub mod Bytes
pub mod Kinds
pub mod Records
pub mod Writing
pub mod Inside

-- The direct sharing.
pub mod Direct
pub mod Inside

-- The verdict program.
pub mod Program

-- Laws of joining.
pub mod JoinedDesign
pub mod JoinedFile
pub mod Reasons
pub mod Room
pub mod JoiningDesigns
pub mod Bench

-- Laws of the stages' outputs, and of running.
pub mod Packing
pub mod Running
pub mod Explained
pub mod EngineValues
pub mod BlockOutputs
pub mod ChainRuns

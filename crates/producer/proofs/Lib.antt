-- Laws of producing.
pub mod Terms
pub mod Theorems
pub mod Explained
pub mod Room
pub mod DirectFiles
pub mod Tests
pub mod ProducingFor
pub mod Bench

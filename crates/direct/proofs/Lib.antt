-- Laws of the direct sharing.
pub mod Products
pub mod Expansion
pub mod Counts
pub mod Placement
pub mod Stage
pub mod WellFormed
pub mod Shareable
pub mod Emission
pub mod Extensions
pub mod DirectList
pub mod PlacementTables
pub mod RuleLists
pub mod Bench

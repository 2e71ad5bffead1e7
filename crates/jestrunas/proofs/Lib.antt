-- What follows from the layers together, and what a customer may rely on.
pub mod ProducedVerdict
pub mod JoinedVerdict
pub mod JoinedRuns
pub mod Promises
pub mod Clauses

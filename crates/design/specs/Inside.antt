-- What contracts inside the library need: no published contract and no promise speaks of it.
pub mod Described
pub mod Framing
pub mod StageLists
pub mod Lists
pub mod Held
pub mod Inserting

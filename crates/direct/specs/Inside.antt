-- What contracts inside the library need: no published contract and no promise speaks of it.
pub mod Expanding
pub mod Outside
pub mod Placing

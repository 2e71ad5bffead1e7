-- The published reasons.
pub mod Numbers

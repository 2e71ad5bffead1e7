-- Laws of the published reasons.
pub mod Numbers

pub mod Mtus
pub mod State

pub mod Passing
pub mod Relayed
pub mod State

pub mod Airs
pub mod Calls
pub mod Ciphers
pub mod Faults
pub mod Setups
pub mod State
pub mod UnitFaults

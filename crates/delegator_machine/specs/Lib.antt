pub mod Bits
pub mod Calls
pub mod Groups
pub mod State
pub mod Trains

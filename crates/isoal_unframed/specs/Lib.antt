pub mod Air
pub mod Calls
pub mod Histories
pub mod Slot
pub mod Struck
pub mod Units
pub mod State

pub mod Faults
pub mod Infos
pub mod Kept
pub mod Numbers
pub mod Rooms
pub mod Sound
pub mod Statuses
pub mod Units

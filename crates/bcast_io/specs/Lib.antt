pub mod Causes
pub mod Documents
pub mod Scripts
pub mod State
pub mod Stores
pub mod TextLines
pub mod Writing

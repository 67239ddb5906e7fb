pub mod Between
pub mod Comings

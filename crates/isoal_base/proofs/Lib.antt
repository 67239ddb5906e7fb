mod Ranges
mod Heards
mod Steps
pub mod Citable

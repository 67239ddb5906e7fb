mod Prelude
pub mod Citable
mod Telling

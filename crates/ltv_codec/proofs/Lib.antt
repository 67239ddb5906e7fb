mod Prelude
mod Lists
mod Loops
pub mod Citable

mod Prelude
mod Readings
mod PlainBases
mod BaseLines
pub mod Citable

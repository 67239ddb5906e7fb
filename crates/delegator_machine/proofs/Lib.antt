mod Prelude
mod Bits
mod Hearing
mod Places
mod Standing
mod Trains
mod Where
pub mod Citable

mod Prelude
mod Events
mod Handing
mod Offsets
mod OneStream
mod Opened
mod Places
mod Receivers
mod Sets
mod Standing
pub mod Citable

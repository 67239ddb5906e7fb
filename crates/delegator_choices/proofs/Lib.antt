mod Prelude
mod Candidates
mod Slots
mod Streams
mod Taken
pub mod Citable

pub mod Lifting
pub mod Phasing
pub mod Drafts
pub mod Starts
pub mod Citable
pub mod Trains
mod Prelude

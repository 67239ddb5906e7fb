pub mod Fields
pub mod Loop
pub mod Whole
pub mod Stops
pub mod Cuts
pub mod Bits
pub mod Meanings
pub mod FirstReasons
pub mod LastReasons
mod Prelude

mod Prelude
mod Order
mod BoundsOf
pub mod Sums
pub mod Words
pub mod Ciphers
pub mod Fields
pub mod Cuts
pub mod Encodings
pub mod Citable

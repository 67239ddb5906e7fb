pub mod Layout
pub mod Told
pub mod PlainBase
pub mod BaseLines

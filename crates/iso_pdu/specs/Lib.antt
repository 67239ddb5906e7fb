pub mod Control
pub mod Faults
pub mod Layout
pub mod Reading
pub mod Encoding
pub mod State

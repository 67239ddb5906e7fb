pub mod Faults
pub mod Layout
pub mod Match
pub mod Pushes
pub mod Reading
pub mod Reasons

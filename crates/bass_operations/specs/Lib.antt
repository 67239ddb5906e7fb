pub mod Faults
pub mod Layout
pub mod Reading
pub mod Twice
pub mod Scanning

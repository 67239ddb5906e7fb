pub mod Cuts
pub mod Faults
pub mod Layout
pub mod Reading
pub mod Steps

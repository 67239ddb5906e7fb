pub mod Bounds
pub mod Faults
pub mod Layout
pub mod Reading
pub mod Rows
pub mod Schedule
pub mod Time
pub mod Widths

pub mod Citable
pub mod Ranges
pub mod Handings
mod Prelude
mod Unassigned
pub mod Faults
pub mod Entries
pub mod Closings
pub mod SumLaws
pub mod Beyonds
pub mod OneSink
pub mod SinkLines
pub mod Routes

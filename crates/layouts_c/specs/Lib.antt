pub mod BaseParts
pub mod Bases
pub mod Checks
pub mod States

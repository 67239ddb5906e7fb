mod Prelude
mod BoxLaws
pub mod Citable
mod Permitted
mod RunLaws
mod Stages
mod Sums

pub mod Citable
mod Prelude
mod CutTexts
mod LineLaws
pub mod ReadingLaws
mod Readings
pub mod Slices
mod Transfers

mod Prelude
mod Opened
mod OctetLists
mod Fitting
mod Trains
mod ReadBack
mod Acts
mod Drains
mod Agreeing
mod Telling
pub mod Citable

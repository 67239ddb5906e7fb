pub mod Causes
pub mod CutGroups
pub mod CutStates
pub mod CutSteps
pub mod Cuts
pub mod Fits
pub mod HeadTails
pub mod Heads
pub mod HeadsFound
pub mod HeadsTold
pub mod Judged
pub mod Loops
pub mod Parts
pub mod Read
mod Prelude

mod Prelude
mod LowFirst
mod MadeSteps
mod NextLines
mod Putting
mod Rows
mod Said
mod StepLines
pub mod Taking

pub mod Draws
pub mod Generated
pub mod NextSteps
pub mod State
pub mod Taking

pub mod Answers
pub mod Calls
pub mod Cuts
pub mod Links
pub mod State
pub mod Views

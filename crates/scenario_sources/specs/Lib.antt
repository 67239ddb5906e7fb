pub mod Bases
pub mod Described
pub mod Faults
pub mod Answers
pub mod State

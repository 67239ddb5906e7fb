pub mod Brings
pub mod Choices
pub mod Slots

pub mod Receivers
pub mod Sinks
pub mod Steps

pub mod Following
pub mod Groups
pub mod Serving
pub mod State

pub mod Apart
pub mod Changes
pub mod Followed
pub mod Serving
pub mod Encoded
pub mod Standing
pub mod Streams
pub mod Wanting
pub mod Written
mod Prelude

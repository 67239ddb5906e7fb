pub mod Calls
pub mod Handing
pub mod Hearings
pub mod Streams
pub mod State

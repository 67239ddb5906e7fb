-- How the state of a source stands for its calls.
pub mod Lent
pub mod Senders
pub mod Sources
pub mod Streams

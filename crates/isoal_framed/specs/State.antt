-- How the states of a receiver and of a sender stand for their histories.
pub mod Buffers
pub mod Entries
pub mod Joining
pub mod Nexts
pub mod Packings
pub mod Places
pub mod Receivers
pub mod Senders
pub mod Streams
pub mod Windows

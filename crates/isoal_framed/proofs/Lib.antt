mod Prelude
mod Begun
mod Closed
mod Entries
mod Fates
mod Filling
mod Greedy
mod Joins
mod Packings
mod Rings
mod Segments
mod Senders
mod Sendings
mod Sends
mod Stays
mod Struck
pub mod Citable

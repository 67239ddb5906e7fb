mod Prelude
mod Bits
mod TrainOutcome
pub mod Citable
mod Delays
mod GoesOn
mod BigSyncs
mod Lasts
mod Lists
mod Octets
mod Places
pub mod Sets
mod Streams
mod Waiting

-- What the calls of a relay do to it and to the source that it gives to.
pub mod Flushing
pub mod Relays

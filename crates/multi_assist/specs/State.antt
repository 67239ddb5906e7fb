-- What the links of a sink keep.
pub mod Gathering
pub mod Links
pub mod Places
pub mod Terms

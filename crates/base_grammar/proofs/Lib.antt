pub mod Ads
pub mod Again
pub mod Checks
pub mod Cuts
pub mod Drafts
pub mod Encoded
pub mod Firsts
pub mod Indices
pub mod Loops
pub mod Places
pub mod Services
pub mod Sizes
pub mod Steps
pub mod Taken
pub mod Walk
mod Prelude

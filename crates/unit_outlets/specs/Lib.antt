pub mod Account
pub mod Failing
pub mod Handed
pub mod Took
pub mod Texts

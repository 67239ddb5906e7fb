pub mod Announced
pub mod Lending
pub mod Owned
pub mod Sources
pub mod Starts

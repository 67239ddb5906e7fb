pub mod Gathering
pub mod Standing
pub mod Between
pub mod Beyond
pub mod Entries
pub mod RelaysStand

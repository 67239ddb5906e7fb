pub mod Brings
pub mod Machines
pub mod Places
pub mod Puts
pub mod Statuses
pub mod Written

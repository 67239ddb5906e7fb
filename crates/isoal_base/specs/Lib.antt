pub mod Air
pub mod Hearing
pub mod Stays

pub mod TextRead
pub mod Ended
pub mod State

pub mod Generated
pub mod State

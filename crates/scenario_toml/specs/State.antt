pub mod Growth
pub mod Fields

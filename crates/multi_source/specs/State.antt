-- How the state of sources stands for their calls.
pub mod Airs
pub mod Fields

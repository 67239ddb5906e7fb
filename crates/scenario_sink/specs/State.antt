-- How a sink with its links stands for what it took.
pub mod Links
pub mod Stands
pub mod Taking
pub mod Untold

pub mod Frequent
pub mod Operations
pub mod SinkLines

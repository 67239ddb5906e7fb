pub mod CountedLines
pub mod Labels
pub mod Lines
pub mod SinkLines
pub mod Summary

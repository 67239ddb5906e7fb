pub mod Answers
pub mod Making
pub mod Operates
pub mod Origins
pub mod SinkCalls
pub mod SinkHistory
pub mod SinkLines
pub mod State

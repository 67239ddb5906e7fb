pub mod Cells
pub mod Opening
pub mod Rings
pub mod Receivers
pub mod Sender
pub mod Streams
pub mod Windows

pub mod Causes
pub mod Heads
pub mod Judged
pub mod Loops
pub mod Opcodes
pub mod Read
pub mod Encoded
pub mod Twice
mod Prelude

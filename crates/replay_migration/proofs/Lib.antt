mod Prelude
mod Lines
mod Endings
mod Writes

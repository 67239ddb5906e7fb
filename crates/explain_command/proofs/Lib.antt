mod Prelude
mod Documents

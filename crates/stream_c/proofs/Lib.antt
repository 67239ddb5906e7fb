mod Prelude
mod Framings
mod Handing
mod Kept

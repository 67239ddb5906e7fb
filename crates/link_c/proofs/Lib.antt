mod Prelude
mod Agreeing
mod Free
mod Kept
mod Lengths
mod Wished

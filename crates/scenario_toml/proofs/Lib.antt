pub mod Growing
mod Prelude

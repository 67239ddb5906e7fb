mod Prelude
mod Airing
mod Answered
mod Starting

pub mod Citable
mod Prelude
mod Short
mod GeneratedText
mod Comings
mod EndLines
mod SinkOutputs
mod Outputs
mod Runs
mod Standing
mod Waiting
mod Accepting
mod Saying
mod Endings
mod Rooms
mod Promising

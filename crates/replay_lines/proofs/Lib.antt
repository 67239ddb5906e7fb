pub mod Citable
mod Prelude
mod Completing
mod DocumentPromises
mod Endings
mod Prefixes
mod LineEndings
mod LineSteps
mod Listening
mod OtherAirs
mod Promises
mod Reading
mod ReadingOn
mod RefusalLaws
mod Running
mod Unread

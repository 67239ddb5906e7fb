-- What a text of version 1 brings in version 2.
pub mod Lived
pub mod Histories
pub mod Migrating
pub mod Outputs
pub mod Printed
pub mod Horizons
pub mod Reading
pub mod Received
pub mod Refused
pub mod Runs
pub mod Seconds
pub mod Texts
pub mod Trains

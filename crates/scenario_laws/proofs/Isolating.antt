-- A sink is isolated from other sinks and from the source that it is not of.
pub mod Isolated
pub mod Kept
pub mod Left
pub mod Histories
pub mod Moves
pub mod Printed
pub mod Said
pub mod Same
pub mod Sums
pub mod Units

pub mod Citable
mod Prelude
mod Making
mod MigratedLines
mod MisfitNumbers
mod Misfits
mod Octets
mod Operations
mod Rows
mod Steps
mod Within
mod Whose

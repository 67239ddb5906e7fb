pub mod Sets
mod Prelude
mod Places
pub mod Citable
mod Fields
mod Layouts
mod Groups
mod Tries

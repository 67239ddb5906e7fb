mod Agreement
pub mod Citable
mod Draining
mod Standing

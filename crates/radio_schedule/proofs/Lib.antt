pub mod Losing
pub mod Window

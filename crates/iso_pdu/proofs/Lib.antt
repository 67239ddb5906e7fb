pub mod Lists
pub mod PartsRead
mod Prelude
mod PdusRead
pub mod Packs
pub mod Controls
pub mod Citable

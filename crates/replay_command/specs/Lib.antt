pub mod Boxes
pub mod Statuses
pub mod FromText
pub mod FromDocument
pub mod Migrated
pub mod Generated
pub mod ByWords

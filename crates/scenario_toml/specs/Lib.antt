pub mod Parts
pub mod Words
pub mod Tables
pub mod Document
pub mod State

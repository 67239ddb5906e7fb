-- The laws of relayed units.
pub mod Numbered
pub mod Offering

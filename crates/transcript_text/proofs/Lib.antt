pub mod Citable
pub mod Counting
pub mod Ending
pub mod Indices
pub mod Putting
pub mod Splitting
pub mod UnitLines
pub mod Wholes

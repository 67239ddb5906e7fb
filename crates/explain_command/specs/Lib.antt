pub mod Boxes
pub mod Statuses
pub mod Told
pub mod ToldDocument
pub mod ToldIn

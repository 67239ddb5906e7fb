pub mod Agreement
pub mod Lending
pub mod Links
pub mod Owned
pub mod Wishes

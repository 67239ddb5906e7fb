-- What the relayed units leave, and what is dropped of them.
pub mod Dropped
pub mod Laws
pub mod Legal

-- What the relayed units do to a scenario.
pub mod Citable
pub mod Dropped
pub mod Left
pub mod Histories
pub mod Legal
pub mod Offered
pub mod One
pub mod Printed
pub mod Routes

mod Prelude
mod Airs
mod Events
mod Handing
mod HeldLaws
mod Kept
mod Laid
mod Places
mod Rows
mod SlotSteps
mod Stands
mod Struck
mod Turns
mod UnitLaws
mod Vecs
mod Windows
pub mod Citable

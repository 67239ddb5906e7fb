mod Prelude
mod AllHanded
mod Handing
mod Kept
mod Lengths
mod NoFault

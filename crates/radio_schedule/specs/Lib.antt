pub mod Losing
pub mod OnAir
pub mod PayloadNumber

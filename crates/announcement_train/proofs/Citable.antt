-- What upper crates may cite: a line more changes the last subgroup alone, and the BASE of which no line says one has its room.
pub use Rattle.announcement_train.proofs.BaseLines.{adds_to_last, describes_last}
pub use Rattle.announcement_train.proofs.PlainBases.{plain_is_small}

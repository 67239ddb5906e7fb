-- What upper crates may cite: lists made over a range, what is heard of a number, and how a receiver goes on standing for its calls.
pub use Rattle.isoal_base.proofs.Heards.{cases_option, entry_outside, heard_first, heard_same}
pub use Rattle.isoal_base.proofs.Ranges.{map_append, map_changed, map_part, map_rest, map_same}
pub use Rattle.isoal_base.proofs.Steps.{stands_close, stands_hear, stands_new}

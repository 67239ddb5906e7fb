-- What upper crates may cite: the bounds of a group that was checked, that no fault of it holds within a greater horizon, and that
-- octets that are the layout of a BIGInfo are read as it.
pub use Rattle.big_info.proofs.BoundsOf.{bounds_of}
pub use Rattle.big_info.proofs.Cuts.{info_read}
pub use Rattle.big_info.proofs.Order.{no_fault_within}

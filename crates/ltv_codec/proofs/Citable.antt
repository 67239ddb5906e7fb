-- What upper crates may cite: lists are read exactly where they have the layout, and else the first bad place is told.
pub use Rattle.ltv_codec.proofs.Lists.{bad_read, list_read, read_bad, read_list}
pub use Rattle.ltv_codec.proofs.Loops.{are_read, list_in, reads}

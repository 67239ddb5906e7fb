-- What upper crates may cite: texts of whole lines, and what they say one after the other.
pub use Rattle.transcript_text.proofs.Wholes.{whole_append, whole_ended, whole_none}
pub use Rattle.transcript_text.proofs.Counting.{counts_append}

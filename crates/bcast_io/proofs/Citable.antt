-- What upper crates may cite: octets that are read and written one after the other, and the lines of a text.
pub use Rattle.bcast_io.proofs.Transfers.{Appends-nothing, Appends-then, AppendsPrefix-nothing, AppendsPrefix-of_more}
pub use Rattle.bcast_io.proofs.Transfers.{AppendsPrefix-then, Consumes-nothing, Consumes-then}
pub use Rattle.bcast_io.proofs.LineLaws.{lines-end, lines-nothing, lines-past_all, lines-unended}

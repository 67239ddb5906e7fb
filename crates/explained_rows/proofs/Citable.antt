-- What upper crates may cite: octets that leave what was written as it is.
pub use Rattle.explained_rows.proofs.Telling.{keeps_itself, keeps_then, prefix_none}

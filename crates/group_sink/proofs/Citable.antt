-- What upper crates may cite: which streams stand in a set.
pub use Rattle.group_sink.proofs.Sets.{is_member, member_is}

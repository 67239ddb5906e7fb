-- What upper crates may cite: what calls of one kind leave of what waits on a link.
pub use Rattle.sink_history.proofs.Drains.{drop_nil, drop_one, taken_one_by_one, writes_one, notices_one, reads_one}

-- What upper crates may cite: how a receiver goes on standing for its calls, what a close owes, and what each call adds to
-- the decided units; that a list of calls has a framed air, and no other; facts of lists over a range of numbers.
pub use Rattle.isoal_framed.proofs.Closed.{close_gains, close_stands, decides_nothing, flat_last, flat_same, hear_stands, new_stands, opened_least, owed_is}
pub use Rattle.isoal_framed.proofs.Filling.{framed_air_is}
pub use Rattle.isoal_framed.proofs.Greedy.{cases_low, one_air}

-- What upper crates may cite: how what is looked back for goes on with a step, the notices of a step, where bits of streams stand,
-- and when no stream is taken.
pub use Rattle.delegator_history.proofs.Bits.{bits_on}
pub use Rattle.delegator_history.proofs.GoesOn.{snapshot_goes_on}
pub use Rattle.delegator_history.proofs.Waiting.{waiting_goes_on, no_change, none_change, one_changes}
pub use Rattle.delegator_history.proofs.Sets.{none_set}

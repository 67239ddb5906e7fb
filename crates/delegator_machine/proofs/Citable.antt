-- What upper crates may cite: what the PDUs of an event are to each half; a step that brings no group puts a sink on none, and one
-- that brings a group puts it there.
pub use Rattle.delegator_machine.proofs.Hearing.{groups_heard, steps_heard}
pub use Rattle.delegator_machine.proofs.Places.{comes_on, stays_off}

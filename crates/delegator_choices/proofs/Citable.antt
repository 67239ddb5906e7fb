-- What upper crates may cite: slots that are found, and lists one by one.
pub use Rattle.delegator_choices.proofs.Slots.{Found, found, held_slot}
pub use Rattle.delegator_choices.proofs.Streams.{drop_get}

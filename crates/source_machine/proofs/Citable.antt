-- What upper crates may cite: every source has airs; what an event sent stays; where a payload number belongs;
-- that no row of the group check holds of an encrypted group without its cipher; what is accepted as events are laid.
pub use Rattle.source_machine.proofs.AirLaws.{airs_exist, is_checked, sends_stay}
pub use Rattle.source_machine.proofs.Ciphers.{none_holds}
pub use Rattle.source_machine.proofs.FramedCalls.{lays_accepted as timed_accepted}
pub use Rattle.source_machine.proofs.Histories.{lays_events}
pub use Rattle.source_machine.proofs.Orders.{prefix_accepted}
pub use Rattle.source_machine.proofs.Payloads.{ahead_within, event_of_number}

-- What the proofs of this crate use of `std` and of the crates below it, by one import.
pub use Rattle.std.proofs.Common.{ℕ, ◌≡◌, ◌<◌, ◌+◌, ◌-◌, min, List, [], ◌∷◌, ◌++◌, length, get_or, arith, ◌∙◌, ap, sym, refl, subst, inl, inr, Option, Some, None}
pub use Rattle.circular_buffer.specs.Buffer.{keep_last}
pub use Rattle.isoal_base.specs.Air.{Air}
pub use Rattle.multi_source.specs.State.Airs.{IsOfGroup, IsOnAir}
pub use Rattle.multi_source.specs.State.Fields.{Sending, Starts}
pub use Rattle.multi_source.specs.declared.field.Begun.{Begun}
pub use Rattle.radio_schedule.specs.OnAir.{OnAir, silence}
pub use Rattle.source_machine.specs.Airs.{AreAirs, Sends, airs_of, stale_of}
pub use Rattle.source_machine.specs.Calls.{Setup, Call, event, events, next_of}
pub use Rattle.source_machine.specs.Setups.{IsChecked, Configured, started, configured}

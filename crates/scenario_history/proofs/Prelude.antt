-- What the proofs of this crate use of `std` and of the crates below it, by one import.
pub use Rattle.std.proofs.Common.{◌≡◌, ◌≢◌, ℕ, ◌+◌, ◌-◌, zero, suc, Bool, true, false, eqb, List, [], ◌∷◌, ◌++◌, length, map, drop, refl, sym, ap, ◌∙◌, append_assoc, arith, slice_get, slice_set, Option, None, Some, length-append, length-drop, ◌<◌, inl, inr, reverse, cond, ◌==◌}
pub use Rattle.std.proofs.lemmas.Bool.{or_parts, ne_eqb, cases_eq}
pub use Rattle.std.proofs.lemmas.List.{drop-drop, drop-append-le, append-nil, reverse-append}
pub use Rattle.std.proofs.lemmas.List.Sums.{sum_by-cons, sum-map}
pub use Rattle.std.proofs.lemmas.Option.{none-some}
pub use Rattle.scenario_history.specs.Boxes.{SinkUnit, no_account, account_at, with_handed, accounts_after, onto_valid, valid_for, kept_with, with_units, Took, box_of, box_after}
pub use Rattle.scenario_history.specs.Steps.{chosen_steps, is_over, stage_of, version_of, is_of_source, stage_after, steps_of_source, sinks_made, sinks_made_by}
pub use Rattle.scenario_text.specs.declared.step.Step.{Step}
pub use Rattle.unit_outlets.specs.Account.{Account, with_unit, kept_after}
pub use Rattle.unit_outlets.specs.Handed.{Handed, valid, lost}
pub use Rattle.scenario_history.specs.Refusals.{is_misplaced, is_out_of_order, is_out_of_phase, own_refusal, phase_refusal, refusal_of, sink_refusal, source_refusal, twin_refusal}

-- What the proofs of this crate use of `std` and of the crates below it, by one import.
pub use Rattle.std.proofs.Common.{ℕ, ◌≡◌, ◌≤◌, ◌<◌, ◌⊎◌, nat_lt, Bool, true, false, cond, List, [], ◌∷◌, length, Option, None, Some, Result, Ok, Err, refl, sym, ap, subst, is_some, not, ◌∙◌, arith, ◌-◌, ◌==◌, unwrap_or, if◌then◌else◌, slice_get, option_map, ◌≢◌, eq-eqb, ne_eqb, slice_set, get_or, ◌&&◌}
pub use Rattle.std.proofs.lemmas.Bool.{false≢true, le-ltb, lt-ltb, cases_eq}
pub use Rattle.std.proofs.lemmas.Option.{none-some, get_or_from_slice_get, slice_get-get_or}
pub use Rattle.std.specs.Option.{option_or, ForSome}
pub use Rattle.announcement_train.specs.BaseLines.{subgroups_in}
pub use Rattle.base_grammar.specs.Draft.{finish_fault, is_empty_last, last_of, size_fault, Refuses, entry_fault, metadata_fault, opened, subgroup_fault, with_entry, with_metadata, with_subgroup}
pub use Rattle.base_grammar.specs.Layout.{Endpoint, endpoint, encoding, IsConfig, indices, is_lc3, stands_in}
pub use Rattle.base_grammar.specs.declared.subgroup.Subgroup.{Subgroup}
pub use Rattle.big_info.specs.declared.info.BigInfo.{BigInfo}
pub use Rattle.big_info.specs.declared.info.Cipher.{Cipher}
pub use Rattle.isoal_base.specs.Air.{Air}
pub use Rattle.ltv_codec.proofs.Citable.{are_read}
pub use Rattle.scenario_history.proofs.Citable.{stage_same, get_set_here, get_set_other, neither, fails_not}
pub use Rattle.scenario_history.specs.Bases.{base_lines, has_subgroup, is_last_bare, subgroups_of, base_of, has_bis, base_from, is_base_too_long}
pub use Rattle.scenario_history.specs.Source.{described, phase_of, GroupLine, cipher_of, sending, ident_of, is_ciphered, setup_of, source_calls, identity_of, checked_info, no_identity, event_back, pdu_in, absent, open_event, performed, stale_in, takes_units, is_started, is_ahead_in, is_described_at}
pub use Rattle.scenario_history.specs.Steps.{chosen_given, chosen_of, chosen_steps, is_of_source, steps_of_source, is_unbegun_at, stage_of, is_over, other_of, running}
pub use Rattle.scenario_sources.specs.Described.{group_step, IsPlain, identity_or_none}
pub use Rattle.scenario_sources.specs.Faults.{fault_in, misfit_refusal_of, fault_of}
pub use Rattle.scenario_sources.specs.State.Phases.{Becomes, DescribedIs, StartedIs, PhaseAt, PhaseIs, is_described, AbsentIs, IsReady, Begins, MayStart, line_of}
pub use Rattle.scenario_sources.specs.State.Standing.{SourcesStand}
pub use Rattle.scenario_sources.specs.declared.phase.Described.{Described}
pub use Rattle.scenario_sources.specs.declared.phase.Phase.{Phase}
pub use Rattle.scenario_sources.specs.declared.sources.Sources.{Sources}
pub use Rattle.scenario_text.specs.declared.step.Step.{Step}
pub use Rattle.scenario_text.specs.declared.step.Step.TheVariants.{Bis, Meta, Start, Ident, Event, Terminate}
pub use Rattle.sink_history.specs.Refusals.{refuse_if}
pub use Rattle.source_machine.proofs.Citable.{airs_exist}
pub use Rattle.source_machine.specs.Airs.{airs_of, pdu_of, stale_of, waiting_of, AreAirs}
pub use Rattle.source_machine.specs.Calls.{Call, Setup, next_of, next_anchor_of, event}
pub use Rattle.source_machine.specs.Ciphers.{with_cipher, without_cipher}
pub use Rattle.source_machine.specs.State.Sources.{Source, StandsFor, anchor_in, group_in}
pub use Rattle.source_machine.specs.declared.setup.Identity.{Identity}
pub use Rattle.transcript_text.specs.declared.refusal.Refusal.{Refusal}
pub use Rattle.transcript_text.specs.declared.refusal.Refusal.TheVariants.{Order, NoSuchBis, IdentTwice, CounterEnds, BadGroup, BaseTooLong}
pub use Rattle.transcript_text.specs.declared.stop.Stop.{Stop}
pub use Rattle.transcript_text.specs.declared.stop.Stop.TheVariants.{Refused}
pub use Rattle.announcement_train.proofs.Citable.{adds_to_last, describes_last, plain_is_small}
pub use Rattle.scenario_sources.specs.Bases.{is_bare, is_missing, stop_of, is_long}
pub use Rattle.source_machine.specs.Setups.{IsChecked, are_twins, Configured, started}
pub use Rattle.source_machine.specs.Faults.{air_fault, answer_of, give_fault, misfit_of, refused_unit, announce_fault, ConfigureFails, event_fault}
pub use Rattle.scenario_history.specs.Refusals.{air_refusal, give_refusal, no_place, relayed_or, is_ident_twice, twin_refusal, train_ends, group_refusal, counter_ends}
pub use Rattle.scenario_sources.specs.Answers.{SentIs, Answers, Closes, Performs, Terminates, AnnouncesAs}
pub use Rattle.scenario_sources.specs.State.Stops.{GivesTo, GiveStops, FinishStops, Finishes, StartStops}
pub use Rattle.std.proofs.lemmas.Result.{IfErr-weaker, IfOk-weaker}

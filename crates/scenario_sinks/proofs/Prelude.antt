-- What the proofs of this crate use of `std` and of the crates below it, by one import.
pub use Rattle.std.proofs.Common.{ℕ, zero, suc, ◌≡◌, ◌≢◌, ◌≤◌, ◌<◌, ◌+◌, ◌==◌, ◌&&◌, Bool, false, inl, inr, List, [], ◌∷◌, refl, sym, ◌∙◌, ap, Option, Some, slice_get, slice_set, eq-eqb, ne_eqb, if◌then◌else◌, arith, true, length, subst, is_some, get_or, None, Result, Ok, Err, ◌++◌, map, OnOk, ◌⊎◌, replicate, ◌-◌, append_assoc, take, is_none, ◌||◌, cond, nat_lt, drop, rules}
pub use Rattle.std.proofs.lemmas.Bool.{cases_eq, le-leb, lt-leb}
pub use Rattle.std.proofs.lemmas.Grind.{flat_map-append}
pub use Rattle.std.proofs.lemmas.List.{append-nil, with_items_is, map-append, take-append-drop, take_more}
pub use Rattle.std.proofs.lemmas.Option.{slice_get-get_or}
pub use Rattle.std.proofs.lemmas.Result.{on_ok_weaker}
pub use Rattle.std.specs.List.{range_with_len, flat_map, list_all, filter, list_any}
pub use Rattle.delegator_history.specs.Trains.{Settings, Train}
pub use Rattle.group_sink.specs.Calls.{Call, tick, hear, tune, heard_calls}
pub use Rattle.isoal_base.specs.declared.hearing.Hearing.{Hearing}
pub use Rattle.scenario_history.proofs.Citable.{get_set_here, get_set_other, took_all}
pub use Rattle.scenario_history.specs.Boxes.{most_sinks, SinkUnit, accounts_after, closing_by, with_handed, account_at, Took, valid_for, with_units}
pub use Rattle.scenario_history.specs.Output.{unit_lines, unit_line}
pub use Rattle.scenario_history.specs.Sinks.{is_of, ticked_if}
pub use Rattle.scenario_sink.specs.SinkHistory.{receiving, new_sink, after_tuning, hearing_event}
pub use Rattle.scenario_sink.specs.State.Stands.{IsSink}
pub use Rattle.scenario_sinks.specs.Handing.{Hands, BoxTakes, BoxFails}
pub use Rattle.scenario_sinks.specs.Histories.{Histories, without, with_sink, with_tuning, with_hearing, with_heard, with_close, with_close_at, sourced_by, with_line}
pub use Rattle.scenario_sinks.specs.State.Between.{Between, EntriesFrom, OneBetween, SinkCloses, SinkHands, AllClose, OneCloses, Unmoved}
pub use Rattle.scenario_sinks.specs.State.Entries.{EntryHears, EntryTunes, EntryRuns}
pub use Rattle.scenario_sinks.specs.State.Gathering.{handed_of, units_for, calls_of}
pub use Rattle.scenario_sinks.specs.State.Standing.{EntryAt, EntriesAre, SinksStand, EntryIs, histories_of}
pub use Rattle.scenario_sinks.specs.Sums.{sums_where, sum_at, sum_where}
pub use Rattle.scenario_sinks.specs.Unassigned.{UnassignedSame, AllButSame}
pub use Rattle.scenario_sinks.specs.declared.gathered.Gathered.{Gathered}
pub use Rattle.scenario_sinks.specs.declared.gathered.HandedUnit.{HandedUnit}
pub use Rattle.scenario_sinks.specs.declared.sink.Owner.{Owner}
pub use Rattle.scenario_sinks.specs.declared.sink.Sink.{Sink}
pub use Rattle.scenario_sinks.specs.declared.sinks.Sinks.{Sinks}
pub use Rattle.scenario_text.specs.declared.step.Step.{Step}
pub use Rattle.scenario_text.specs.declared.step.Step.TheVariants.{Announce}
pub use Rattle.sink_history.specs.History.{Source, calls_by}
pub use Rattle.sink_history.specs.Moves.{received_by, source_by, follows_by, train_by}
pub use Rattle.sync_reference.specs.BigSync.{BigSync}
pub use Rattle.transcript_text.specs.declared.stop.Stop.{Stop}
pub use Rattle.transcript_text.specs.declared.stop.Stop.TheVariants.{Refused, OutletFault, Memory}
pub use Rattle.unit_outlets.specs.Account.{Account}
pub use Rattle.unit_outlets.specs.Handed.{valid, Handed}
pub use Rattle.unit_outlets.specs.Took.{OthersSame, TookAt}

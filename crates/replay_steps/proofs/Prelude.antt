-- What the proofs of this crate use of `std` and of the crates below it, by one import.
unfoldable pub use Rattle.scenario_history.specs.Boxes.{sink_numbers}
pub use Rattle.std.proofs.Common.{◌≡◌, ℕ, ◌+◌, ◌*◌, ◌<◌, ◌^◌, sym, ◌∙◌, ap, subst, arith, ◌==◌, List, [], ◌∷◌, true, false, if◌then◌else◌, unwrap_or, refl, Option, None, Some, Result, Ok, Err, ◌-◌, nat_lt, Bool, cond, ◌++◌, ap₂, inl, inr, append_assoc, append-nil, eq-eqb, ne_eqb, le-ltb, lt-ltb, slice_get, zero, suc, ◌≤◌, ◌&&◌, not, option_map, is_none, length, map, ◌≢◌, ◌||◌, take, ◌⊎◌, eqb-true, length-append, slice_set, IsTrue, reverse, get_or}
pub use Rattle.std.proofs.Math.Nat.{add-mul}
pub use Rattle.std.proofs.lemmas.Bool.{cases_eq, and_parts, not-false, and_left, and_right, cases_lt}
pub use Rattle.std.proofs.lemmas.Grind.{common_steps}
pub use Rattle.std.proofs.lemmas.List.{map-append, take_all, take_more, length-map}
pub use Rattle.std.proofs.lemmas.List.Concat.{flat_map-append}
pub use Rattle.std.proofs.lemmas.List.Elements.{filter-append}
pub use Rattle.std.proofs.lemmas.Nat.{div-mul-add, mod-mul-add}
pub use Rattle.std.specs.List.{flat_map, range_with_len, list_all, list_any, filter, concat}
pub use Rattle.std.specs.Option.{option_or}
pub use Rattle.std.specs.Prelude.{slice_index_or, sum, OnOk}
pub use Rattle.bcast_base.specs.declared.unit.Unit.{Unit as AudioUnit}
pub use Rattle.bcast_io.specs.TextLines.{TextLine, plain}
pub use Rattle.big_info.specs.declared.info.BigInfo.{BigInfo}
pub use Rattle.delegator_history.specs.Trains.{Settings}
pub use Rattle.group_sink.specs.Calls.{Call, hear, heard_first, heard_where}
pub use Rattle.group_sink.specs.Handing.{handed_at}
pub use Rattle.radio_schedule.specs.Losing.{LosesFrom, lost_at, unlost, CountsOn}
pub use Rattle.replay_steps.specs.Airing.{OnAir, histories_on_air, Reaches}
pub use Rattle.replay_steps.specs.Between.{FirstBetween, with_closes_below}
pub use Rattle.replay_steps.specs.Failing.{CloseFails, printed_before}
pub use Rattle.replay_steps.specs.Machines.{Stands, histories_of, relay_histories, lent}
pub use Rattle.replay_steps.specs.Meets.{Quiet, phase_line, Tells, BoxesStand, Meets, StepMeets, Becomes}
pub use Rattle.replay_steps.specs.Relaying.{FirstMeets, ComponentsStand, SinkMeets, answer_lines, lines_at, lines_below, offers_below, offers_of, units_below, OffersMeet, Closes, GivesSecond, Drops, FirstFails}
pub use Rattle.replay_steps.specs.Unassigned.{UnassignedBy, UnassignedRun}
pub use Rattle.replay_steps.specs.Versions.{stage_in, number_of}
pub use Rattle.replay_steps.specs.declared.machine.Machine.{Machine}
pub use Rattle.scenario_history.proofs.Citable.{took_all, box_was_made, valid_append, accepted_accepted, stage_same, octets_add_up, units_add_up, boxes_stay}
pub use Rattle.scenario_history.specs.Boxes.{box_of, SinkUnit, accounts_after, closing_by, Took, valid_for, handed_up, closing, closing_at, handed_by, closing_in, Holds, RoomFor, onto_valid, with_units, account_at, closing_both}
pub use Rattle.scenario_history.specs.Lines.{Said, a_step, said_of, steps_of, said_after, handed_said, with_said, handed_on, rules_of, said_by, refusal_said, output_said}
pub use Rattle.scenario_history.specs.Output.{unit_lines, close_lines, first_lines, output_of, stale_lines, dropped_lines, sink_lines, answer_line, sum_if, sums_of}
pub use Rattle.scenario_history.specs.Refusals.{no_sink, phase_refusal, relayed_or, sink_refusal, source_refusal, no_place, is_relayed, gives_on, is_misplaced, air_refusal, line_refusal, relay_refusal}
pub use Rattle.scenario_history.specs.RelayedUnits.{Offer, after_offers, answered, offered_of, Answered, happened, answered_by, closes_first, offers_at, with_relayed_units, after_offer, dropped_for, with_relayed_unit, units_on, with_relayed_unit_unless, valid_on}
pub use Rattle.scenario_history.specs.Relays.{relay_of, Route, relay_given, relays_to, had_relay}
pub use Rattle.scenario_history.specs.Sinks.{is_of, ticked_if, sink_calls, source_of, hear_at, heard_on_air, is_lost, position_at, unless_lost, Position}
pub use Rattle.scenario_history.specs.Source.{setup_of, takes_units, source_calls, open_event, group_of, no_group, event_back, is_heard, pdu_in, performed, end_pdu, stale_in}
pub use Rattle.scenario_history.specs.Steps.{Stage, chosen_of, chosen_steps, running, stage_after, stage_of, version_at, sinks_made, is_over, steps_of_source, is_of_source, version_of, over, is_over_at, chosen_given, unbegun, sinks_made_by}
pub use Rattle.scenario_history.specs.Worlds.{calls_made, source_at, big_sync_on, the_world}
pub use Rattle.scenario_laws.proofs.RelayedUnits.Citable.{left_by_offers, flat_within, flat_same, handed_happened, sinks_happened, flat_one, other_in, handed_flat, lines_map, handed_append, hands_alike, left_by_relayed_units, stage_happened, passes_both, own_handed as own_units}
pub use Rattle.scenario_sink.specs.SinkLines.{IsSinkLine}
pub use Rattle.scenario_sinks.proofs.Citable.{accounts_append, hands_stop, hands_then, stands_same, lines_append}
pub use Rattle.scenario_sinks.specs.Closing.{closing_of, handed_all, closings_at, ClosesAt}
pub use Rattle.scenario_sinks.specs.Handing.{BoxFails, CutShort, Hands}
pub use Rattle.scenario_sinks.specs.Histories.{Histories, with_close, with_close_at, without, with_sink, with_tuning, with_line, with_heard}
pub use Rattle.scenario_sinks.specs.Refusals.{not_made, not_tuned, not_living}
pub use Rattle.scenario_sinks.specs.RelayHistories.{is_idle, with_relay}
pub use Rattle.scenario_sinks.specs.State.Gathering.{handed_of, handed_as, octets_of}
pub use Rattle.scenario_sinks.specs.State.RelaysStand.{RelaysStand}
pub use Rattle.scenario_sinks.specs.State.Standing.{SinksStand}
pub use Rattle.scenario_sinks.specs.Unassigned.{UnassignedSame}
pub use Rattle.scenario_sinks.specs.declared.relays.Relays.{Relays}
pub use Rattle.scenario_sinks.specs.declared.route.Route.{Route as LentRoute}
pub use Rattle.scenario_sinks.specs.declared.sinks.Sinks.{Sinks}
pub use Rattle.scenario_sources.proofs.Citable.{SaysNothing, sources_stay, sink_says, tuned_says, drop_says, end_says, named_says, scenario_begins}
pub use Rattle.scenario_sources.specs.Answers.{Answers, AnnouncesAs, SentIs}
pub use Rattle.scenario_sources.specs.Faults.{fault_of}
pub use Rattle.scenario_sources.specs.State.Standing.{SourcesStand}
pub use Rattle.scenario_sources.specs.declared.sources.Sources.{Sources}
pub use Rattle.scenario_text.specs.Steps.{read_of}
pub use Rattle.scenario_text.specs.declared.step.Step.{Step}
pub use Rattle.scenario_text.specs.declared.step.Step.TheVariants.{End, Scenario, Sink, Source, Tuned, Air, Hear, Inject, Meta, Bis, Cipher, Drop, Relay, Ident, Subgroup, Start, Announce, Unit as UnitLine, Train}
pub use Rattle.sink_history.specs.History.{made_of, named_by, version_given, horizon_in}
pub use Rattle.sink_history.specs.Refusals.{refuse_if, refusal_of, refused_at, refused_where}
pub use Rattle.source_machine.specs.Airs.{airs_of, Airs}
pub use Rattle.source_machine.specs.Faults.{air_fault}
pub use Rattle.transcript_text.specs.Lines.{control_line, dropped_line, heard_line, sum_line, handed_line}
pub use Rattle.transcript_text.specs.declared.refusal.Refusal.{Refusal}
pub use Rattle.transcript_text.specs.declared.refusal.Refusal.TheVariants.{Order}
pub use Rattle.transcript_text.specs.declared.stop.Stop.{Stop}
pub use Rattle.transcript_text.specs.declared.stop.Stop.TheVariants.{Refused, OutletFault, Memory}
pub use Rattle.unit_outlets.specs.Account.{Account}
pub use Rattle.unit_outlets.specs.Handed.{Handed, valid}
pub use Rattle.unit_outlets.specs.Took.{TookAt}
pub use Rattle.unit_outlets.specs.declared.fault.OutletFault.TheVariants.{Failed}
pub use Rattle.recurring_lines.specs.Operations.{operation_step}
pub use Rattle.scenario_sink.specs.SinkCalls.{call_step}
pub use Rattle.recurring_lines.specs.Frequent.{frequent_step}
pub use Rattle.recurring_lines.specs.SinkLines.{sink_line_step}

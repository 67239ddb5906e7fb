-- What the proofs of this crate use of `std` and of the crates below it, by one import.
pub use Rattle.std.proofs.Common.{ℕ, ◌≡◌, ◌⊎◌, ◌==◌, ◌&&◌, not, cond, Bool, true, false, List, ◌∷◌, Option, None, Some, is_some, refl, ap, subst, inl, inr, arith, [], length, Result, Ok, Err, ◌≤◌, ◌||◌, sym, ◌∙◌, suc, ◌<◌, ◌+◌, ◌-◌, ◌++◌, append_assoc, slice_get, ◌*◌, ltb, map, ◌/◌, ◌%◌, ◌^◌, zero, ◌≢◌, eqb, min, leb, nat_eq, reverse, ap₂}
pub use Rattle.std.proofs.Math.Nat.{add-mul, mul-le-mul, div-mul-le_self, zero-add, div-eq_of_lt, pow-le-pow_right, div-lt_iff_lt-mul}
pub use Rattle.std.proofs.lemmas.Bool.{false≢true, or_parts, lt-ltb, cases_Bool, eqb-true, ltb-true, cases_eq, cond-false, cond-true, eq-eqb, ne_eqb, and_parts, not-false, ltb-false, leb-true, eqb-false, leb-false, and_right, and_left, le-leb, false_from_ne_true, or_right, not-true, le-ltb, cases_lt, lt-leb, and_cases, or_cases, or_left}
pub use Rattle.std.proofs.lemmas.List.{append_cancel_left, append-nil, map-append, length-map, length-append}
pub use Rattle.std.proofs.lemmas.List.Concat.{flat_map-append}
pub use Rattle.std.proofs.lemmas.List.Elements.{filter-append, All-head, All-tail, All-append, All-cons, All-nil}
pub use Rattle.std.proofs.lemmas.List.Folds.{list_any-append}
pub use Rattle.std.proofs.lemmas.Nat.{mod_below, div-mul-add, div-add-mod', le-div}
pub use Rattle.std.proofs.lemmas.Option.{none-some, same_Some, slice_get_within, slice_get-map}
pub use Rattle.std.specs.List.{AllByRecursion, flat_map, AllZip, range_with_len, filter, list_any, find, Contains, concat, All}
pub use Rattle.std.specs.List.Sorted.{IsStrictlyIncreasing}
pub use Rattle.std.specs.Option.{option_or, option_and_then, option_map}
pub use Rattle.std.specs.Prelude.{unwrap_or, slice_index_or, codes, decimal, slice_index, bytes_eq, nat_lt, is_none}
pub use Rattle.std.proofs.lemmas.Slice.Zip.{AllZip-long}
pub use Rattle.announcement_train.specs.BaseLines.{BaseLine, subgroups_in}
pub use Rattle.announcement_train.specs.Layout.{IsTrain}
pub use Rattle.announcement_train.specs.Told.{Tells, TellsInfo}
pub use Rattle.assistant_machine.specs.Links.{view_of, waiting_of, waits_of, reads_of}
pub use Rattle.base_grammar.specs.Draft.{IsDraft, last_of, Refuses, is_empty_last, size_fault, opened as draft_opened}
pub use Rattle.base_grammar.specs.Layout.{endpoint, stands_in, Endpoint, AreNew, EntryFits, IsBase, SubgroupFits, is_lc3, lc3, bis_of as entry_bis_of, encoding as base_encoding}
pub use Rattle.base_grammar.specs.declared.subgroup.Subgroup.{Subgroup}
pub use Rattle.bcast_base.specs.Tries.{◌>>=◌}
pub use Rattle.bcast_io.specs.TextLines.{TextLine, plain, line_of, too_long, line_limit, newline, text_limit, lines_of as text_lines, past}
unfoldable pub use Rattle.bcast_io.specs.TextLines.{lines_from}
pub use Rattle.big_info.specs.Bounds.{Bounds}
pub use Rattle.big_info.specs.Faults.{faults, number_of}
pub use Rattle.big_info.specs.Reading.{info_of}
pub use Rattle.big_info.specs.Rows.{NoFault, has_fault, IsFirstFault}
unfoldable pub use Rattle.big_info.specs.Rows.{first_fault}
pub use Rattle.big_info.specs.Schedule.{per_event_of, horizon_of}
pub use Rattle.big_info.specs.Time.{iso_us_of, sync_delay_of}
pub use Rattle.big_info.specs.Widths.{FitsWidths}
pub use Rattle.big_info.specs.declared.fault.GroupFault.{GroupFault}
pub use Rattle.big_info.specs.declared.fault.GroupFault.TheVariants.{Horizon}
pub use Rattle.big_info.specs.declared.group.Group.{Group}
pub use Rattle.big_info.specs.declared.info.BigInfo.{BigInfo}
pub use Rattle.big_info.specs.declared.info.Cipher.{Cipher}
pub use Rattle.delegator_control.specs.Groups.{has_group}
pub use Rattle.delegator_history.proofs.Citable.{snapshot_goes_on, none_change}
pub use Rattle.delegator_history.specs.Announced.{numbers_alone, IsOnGroup, heard_as}
pub use Rattle.delegator_history.specs.Octets.{MayAnnounce, train_of, cipher_octets}
pub use Rattle.delegator_history.specs.Snapshots.{Snapshot}
pub use Rattle.delegator_history.specs.States.{train_heard, snapshot_of, written, sync_to_group, done_by, Step as DelegatorStep, Answered as DelegatorAnswered, snapshot_in as delegator_snapshot_in}
unfoldable pub use Rattle.delegator_history.specs.States.{answered as delegator_answered}
pub use Rattle.delegator_history.specs.Trains.{TrainOutcome, Settings, Train, heard, ignored, outcome_by, by_slot, big_sync_in, answer_of, big_info_in, by_base, by_big_info, by_group, by_info, Setup as SinkSetup, taken}
pub use Rattle.delegator_history.specs.Values.{state_at, value, value_at}
pub use Rattle.delegator_history.specs.declared.train_heard.TrainHeard.{TrainHeard}
pub use Rattle.delegator_machine.specs.Groups.{by_numbers, with_leave, with_step}
pub use Rattle.group_sink.proofs.Citable.{member_is, is_member}
pub use Rattle.group_sink.specs.Calls.{Call, leave, tune, hear, tick, place}
pub use Rattle.group_sink.specs.Handing.{bis_of, of_stream, handed_at, handed_since as ticked_since, handed_by as ticked_by_sink}
pub use Rattle.group_sink.specs.Streams.{stay_on, is_in, stream_calls, streams_of, with_hear, with_tick, closes}
pub use Rattle.iso_pdu.specs.Encoding.{pdu}
pub use Rattle.iso_pdu.specs.Layout.{framed, Content, PduIs, Part, start, more}
pub use Rattle.isoal_base.specs.Air.{Air, pdu_at, Laid, event_at}
pub use Rattle.isoal_base.specs.Stays.{Stay, opened, close, Call as StayCall, entry_of as entered, hear as stay_hear, heard as stay_heard}
pub use Rattle.isoal_framed.proofs.Citable.{cases_low, opened_least}
pub use Rattle.isoal_framed.specs.Air.{IsFramedAir, IsAirOf}
pub use Rattle.isoal_framed.specs.Calls.{Timed, accepted, accept, layings_of, Laying, last_time, Call as FramedCall, lay as framed_lay}
pub use Rattle.isoal_framed.specs.Histories.{decided, heard_in, event_tokens}
pub use Rattle.isoal_framed.specs.Sends.{Sends, IsOf, EventsAre, AreOf}
pub use Rattle.isoal_framed.specs.Struck.{InOrder, Sent, entry_by, entry_of, first_missing, struck, Fit, closed_end, is_heard, carried, parts_at, is_last, part_with, FromSource as FramedFromSource, behind, octets_in}
pub use Rattle.isoal_framed.specs.Tokens.{segmented, time_of, Token, token_of, tokens_of}
pub use Rattle.isoal_framed.specs.Units.{Fate, undecided, fate_at, units, handed_of as framed_handed_of}
pub use Rattle.isoal_unframed.proofs.Citable.{all_zip_append, get-range, begun_within, lays_accepted}
pub use Rattle.isoal_unframed.specs.Air.{before_event}
pub use Rattle.isoal_unframed.specs.Calls.{lay, lays, begun, events as laid_events, Call as StreamCall, accept as unframed_accept, accepted as unframed_accepted}
pub use Rattle.isoal_unframed.specs.Histories.{handed, unit_at, numbers_of, units_of as unframed_units_of, heard_in as unframed_heard_in}
pub use Rattle.isoal_unframed.specs.Slot.{laid}
pub use Rattle.isoal_unframed.specs.Struck.{Struck, FromSource, IsStruck, Place, Slots, closed_slots, air_at, Carried}
pub use Rattle.isoal_unframed.specs.Units.{unframed, unit_of}
pub use Rattle.radio_schedule.specs.PayloadNumber.{payload_number, ahead_of}
pub use Rattle.scenario_history.proofs.Citable.{stage_same, reverse_onto, fails_not, permitted, box_was_made, valid_append, maps_none, Permitted, neither}
pub use Rattle.scenario_history.specs.Airs.{MeetAirs, AreAccepted}
pub use Rattle.scenario_history.specs.Bases.{base_lines, base_of, is_base_too_long, subgroups_of, base_from, with_base_line, has_bis, has_subgroup, is_last_bare}
pub use Rattle.scenario_history.specs.Boxes.{closing_both, handed_up, SinkUnit, handed_by, box_after, box_of, closing_at, closing_by, closing_in, onto_valid, valid_for, closing}
unfoldable pub use Rattle.scenario_history.specs.Boxes.{sink_numbers}
pub use Rattle.scenario_history.specs.Lines.{a_step, nothing, unsaid, said_by, said_in, steps_of, with_said, refusal_said, rules_of, output_said, handed_said, said_of, Said, handed_on as line_handed_on, said_after}
pub use Rattle.scenario_history.specs.Output.{close_lines, first_lines, output_of, sums_of, unit_lines, stale_lines, sink_lines}
pub use Rattle.scenario_history.specs.Refusals.{line_refusal, refusal_of, group_refusal, give_refusal, is_misplaced, is_out_of_phase, source_refusal, gives_on, is_relayed, train_ends, counter_ends, air_refusal, is_out_of_order, own_refusal, sink_refusal, twin_refusal, is_relay_beyond, may_relay, relayed_or}
unfoldable pub use Rattle.scenario_history.specs.Refusals.{has_beyond}
pub use Rattle.scenario_history.specs.RelayedUnits.{happened, answered_by, handed_of, Answered, Offer, after_offer, after_offers, closes_first, dropped_for, offered_of, offers_at, with_relayed_unit_unless, with_relayed_units, offers_before, units_on, all_answered, offered_to, answered, passed, handed_of as of_sink}
pub use Rattle.scenario_history.specs.Relays.{has_relay, makes_relay, relay_of, had_relay, relay_given, relays_to, Route}
pub use Rattle.scenario_history.specs.Runs.{Accepted, End, accepted_of, accepted_unless, end_unless, out, out_unless, Rules, refused, number_after, through, end_of}
pub use Rattle.scenario_history.specs.Sinks.{sink_calls, source_after, source_of, with_sink_call, is_of, ticked, ticked_if, heard_on_air, reaches, positions_of, unless_lost, Position, hear_at, ticked_by, position_at, is_lost, moved, sourced, is_of as is_sink}
pub use Rattle.scenario_history.specs.Source.{is_started, setup_of, source_calls, is_ahead_in, no_group, setup_from, stale_in, open_event, event_back, is_ciphered, is_sending, performed, takes_units, Phase, checked_info, cipher_of, group_of, identity_of, is_absent_at, is_described_at, is_sending_at, GroupLine, phase_of, start_of, was_started_at, pdu_in, cipher_given, end_pdu, group_given, ident_of, identity_given, no_identity, phase_given, start_given, with_source_call, sending, is_heard as source_is_heard}
pub use Rattle.scenario_history.specs.Steps.{chosen_of, chosen_steps, steps_of_source, version_at, is_of_source, is_over, is_over_at, sinks_made, is_common, is_source_line, is_unbegun_at, stage_of, version_of, chosen_given, last_given, sinks_made_by, Stage, stage_after, unbegun, running, is_unbegun, over}
pub use Rattle.scenario_history.specs.Transcript.{end_after, out_of, transcript_end, transcript_of, units_of, has_end, last_end_after}
pub use Rattle.scenario_history.specs.Worlds.{calls_made, source_at, big_sync_on, the_world, announced_of}
pub use Rattle.scenario_laws.specs.HearingLaw.{IsHeardMore, LosesNothing, no_steps, both_made, hear_more, air_more, none_lost, HearingLaw, HearingLinesLaw, AllHearingLaw, AllHearingLinesLaw, AllPlacesLaw, shown}
pub use Rattle.scenario_laws.specs.HearingMore.{HearsMore, StandIn, no_calls, both_take, more_hears, no_units, both_have, other_has, DecidedHearing, FramedHearing, HandedHearing, UnframedHearing, entry_in, Keeps}
pub use Rattle.scenario_laws.specs.Isolation.{units_by, lines_by, lines_of, puts, IsIsolated, IsolationLaw, NoOtherPuts, kept_lines}
pub use Rattle.scenario_laws.specs.Laws.{is_tuned, any_since, given_since_made, injected_since, is_given, is_injected, is_made, IsFramedStruck, IsStayStruck, UnitsLaw, calls_on, Closed, closed_by, closed_in, closed_since, handed_since, shown_since, air_in, slots_closed, closed_at, SegmentPlace, OrderLaw, StepsInOrder, steps_before, slots_in, InStartOrder, IsOfStart, StaysInOrder, AreInOrder, IsBefore, closed_if}
pub use Rattle.scenario_laws.specs.Moments.{AreAtTimes, IsAtTime, moment_of_time, IsTaker, IsAtMoments, IsForSlot, IsForTime, IsOneMoment, MomentLaw, accepted_in, moment_of_slot, slots_since, setup_in}
pub use Rattle.scenario_laws.specs.Only.{is_other, sink_in, chooses, is_kept, only}
pub use Rattle.scenario_laws.specs.OrderRows.{its_setup, equal_units, handed_both, its_air, its_calls}
pub use Rattle.scenario_laws.specs.Relayed.{IsOfFirst, UnitPlace, EndsWith, InRelayOrder, IsOfOffered, injected_till_last_offer, InFirstOrder, RelayedUnits}
pub use Rattle.scenario_laws.specs.RelayedUnits.Laws.{handed_on, is_route, offered, RelayLaw, accepted_on, IsLeft, NoneRelayed, DroppedLaw, PrintsUnits, PassesAtOnce}
pub use Rattle.scenario_laws.specs.RelayedUnits.Legal.{AreLegal, AreSaidLegally}
pub use Rattle.scenario_laws.specs.SourceUnits.{AreSent, valid_in, is_valid, IsGiven, time_in, whole_stay, IsOfSlot, IsOfUnit, InSourceOrder, by_payload, InUnitOrder, IsSentAs, anchor_in}
pub use Rattle.scenario_laws.specs.Versions.{EndsLasting, NonePrintsHorizon, PrintsHorizon, IsLastingText, horizon_line, MigrationLaw, IsLasting}
pub use Rattle.scenario_text.specs.Migrated.{is_blank, migrated_line, migrated_lines}
unfoldable pub use Rattle.scenario_text.specs.Migrated.{migrated}
pub use Rattle.scenario_text.specs.Ranges.{IsInRange}
pub use Rattle.scenario_text.specs.Steps.{at_known, at_row, built_at}
unfoldable pub use Rattle.scenario_text.specs.Steps.{read_of, step_of}
pub use Rattle.scenario_text.specs.Table.{Row, event_rows, first_rows, link_rows, row_in, sink_rows, source_rows, link_row_of_2, rows_of_2, sink_row, tuned_row, drop_row, stop_row, end_row, Build}
unfoldable pub use Rattle.scenario_text.specs.Table.{first_row_of, link_row_of, row_of, row_of_2, sink_row_of, source_row_of}
pub use Rattle.scenario_text.specs.declared.step.Step.{Step}
pub use Rattle.scenario_words.specs.declared.fault.LineFault.{LineFault}
pub use Rattle.sink_history.specs.Calls.{born, step_by, writes_waiting, stepped, is_joined, joining_by, served_of, writes, Call as LinkCall, steps_of as link_steps_of, with_step as link_with_step}
pub use Rattle.sink_history.specs.Drains.{repeated, notified_and_read, drained, served_out, notified_out, NoneNotifies, read_out}
pub use Rattle.sink_history.specs.History.{Source, made_of, named_by, own_train, World, calls_after, calls_at, calls_by, made_by, horizon_in, version_given, given_train, history_of, record_of, horizon_of as sink_horizon_of}
pub use Rattle.sink_history.specs.Links.{language, Acts, acts_of, notices_waiting, reads_waiting, is_forged, read_waits, state, view, made_all, delivered, acts_by}
pub use Rattle.sink_history.specs.Moves.{follows, big_sync_of, received_by, source_by, train_by, follows_by, brings_by}
pub use Rattle.sink_history.specs.Octets.{AreOctets, IsAsked}
pub use Rattle.sink_history.specs.Output.{snapshot_in, heard_line, printed_where, drain_lines, if_there, printed_of, read_line, read_lines, serve_line, serve_lines, show_lines, tell_line, tell_lines, view_lines, replied, stated, was_read, printed_at}
pub use Rattle.sink_history.specs.Refusals.{refuse_if, refused_at, refused_where, link_named, link_twice, no_link, no_notice, no_read, no_record_room, nothing_waits, refused_by}
pub use Rattle.source_machine.proofs.Citable.{timed_accepted, none_holds, prefix_accepted, lays_events, ahead_within, event_of_number}
pub use Rattle.source_machine.specs.Airs.{Airs, slots_of, AreAirs, stale_of, airs_of, content_at, pdu_of, place_of, IsAir, air_after}
pub use Rattle.source_machine.specs.Calls.{Setup, next_of, give, events, event, framed_calls, framed_lays, laid_with, given, laid_before, next_anchor_of, last_time_of, lay_anchor, Call as SourceCall, stream_calls as source_stream}
pub use Rattle.source_machine.specs.Ciphers.{with_cipher, without_cipher}
pub use Rattle.source_machine.specs.Faults.{has_its_time, give_fault, event_fault, is_above, is_in_time, announce_fault, air_fault}
pub use Rattle.source_machine.specs.Setups.{IsChecked}
pub use Rattle.source_machine.specs.UnitFaults.{UnitFault}
pub use Rattle.source_machine.specs.declared.setup.Identity.{Identity}
pub use Rattle.sync_reference.specs.BigSync.{BigSync}
pub use Rattle.sync_reference.specs.Reference.{anchor_of, render_of, framed_reference_of, unframed_reference_of}
pub use Rattle.transcript_text.specs.Lines.{control_line, handed_line, refusal_line}
pub use Rattle.transcript_text.specs.SinkLines.{Label, reply_line, sink_line, value_line, control_words}
pub use Rattle.transcript_text.specs.declared.refusal.Refusal.{Refusal}
pub use Rattle.transcript_text.specs.declared.refusal.Refusal.TheVariants.{NoSuchBis, BaseTooLong, Order, BadLine, NotOnAir, AfterEnd, LineTooLong, NothingWaiting, RecordsTooLong}
pub use Rattle.unit_outlets.specs.Account.{Account}
pub use Rattle.unit_outlets.specs.Handed.{Handed, valid, lost}
pub use Rattle.announcement_train.specs.declared.train.Train.{Train as TrainOctets}
pub use Rattle.bcast_base.specs.declared.unit.Unit.{Unit}
pub use Rattle.delegator_history.specs.LastGiven.{last_given as last_given_in}
pub use Rattle.delegator_history.specs.Steps.{Done}
unfoldable pub use Rattle.iso_pdu.specs.Reading.{read_of as pdu_read_of, parts_from}
pub use Rattle.isoal_base.proofs.Citable.{heard_first}
pub use Rattle.isoal_base.specs.Hearing.{read_as}
pub use Rattle.isoal_unframed.specs.State.Windows.{time_of as window_time_of, handed_of as window_handed_of}
pub use Rattle.scenario_text.proofs.Citable.{cons_octets, text_again}
pub use Rattle.scenario_words.specs.Reading.{Left, at_place}
unfoldable pub use Rattle.scenario_words.specs.Reading.{decimal_in}

-- What the proofs of this crate use of `std` and of the crates below it, by one import.
pub use Rattle.std.proofs.Common.{ℕ, ◌≡◌, ◌≤◌, ◌<◌, None, Some, ap, true, false, List, [], ◌∷◌, Option, refl, subst, zero, suc, sym, ◌∙◌, ◌≢◌, length, map, drop, slice_get, slice_set, arith, inl, inr, option_map, Bool, ◌++◌, Result, Ok, Err, ◌+◌, append_assoc, length-append, replicate, ltb, min}
pub use Rattle.std.proofs.lemmas.Bool.{le-ltb, lt-ltb, ne_eqb, cases_eq, eq-eqb, cond-false, cond-true}
pub use Rattle.std.proofs.lemmas.List.{append-nil}
pub use Rattle.std.proofs.lemmas.Result.{err_from_is_err_and}
pub use Rattle.std.specs.List.{concat, flat_map, range_with_len, AllByRecursion, filter}
pub use Rattle.std.specs.Option.{option_or}
pub use Rattle.std.specs.Prelude.{slice_index_or, is_some, is_none, not, if◌then◌else◌, IfOk, ◌↔◌, ◌==◌, ◌&&◌, unwrap_or, codes, decimal, nat_lt, IfErr, IfSome, OnSome, option_to_list, OnOk}
pub use Rattle.assistant_machine.specs.Links.{value_of, waits_of, waiting_of, delivered_of, if_its, notices_of, told_by, reads_of}
pub use Rattle.assistant_machine.specs.State.Assistants.{Assistant, IsLowest, NoneWaits}
pub use Rattle.assistant_machine.specs.Views.{if_slot, reading_of, view_of, told_of}
pub use Rattle.assistant_machine.specs.declared.fault.NoticeFault.TheVariants.{Memory, BadNotice, NoSuchSlot}
pub use Rattle.bcast_base.specs.Encoding.{IsOctets}
pub use Rattle.delegator_control.specs.Groups.{has_group}
pub use Rattle.delegator_history.proofs.Citable.{waiting_goes_on, snapshot_goes_on, none_change}
pub use Rattle.delegator_history.specs.Notices.{is_told, changes, handed_out, waiting}
pub use Rattle.delegator_history.specs.Snapshots.{Snapshot, entry_at, is_on_group}
pub use Rattle.delegator_history.specs.States.{written, Step, done_by, snapshot_of, train_heard, mtu_set, sync_to_group, locations_set, train_lost, record_added, contexts_set}
pub use Rattle.delegator_history.specs.Steps.{after, wishes_at}
pub use Rattle.delegator_history.specs.Trains.{Settings, Setup, answer_of, TrainOutcome, Train, outcome_by, ignored, heard, taken, are_none, base_in, big_info_in, by_base, by_big_info, by_broadcast_id, by_endpoint, by_group, by_info, by_slot, by_streams, first_candidates, is_elsewhere, is_wanted, big_sync_in}
pub use Rattle.delegator_history.specs.Values.{value, value_at}
pub use Rattle.delegator_history.specs.Writes.{reply_of, slot_where}
pub use Rattle.delegator_history.specs.declared.notice.Notice.{Notice}
pub use Rattle.delegator_machine.specs.Calls.{control, tick, hear}
pub use Rattle.delegator_machine.specs.Groups.{group_calls, with_leave, with_step}
pub use Rattle.delegator_machine.specs.State.Halves.{StandsFor, Halves, settings_of}
pub use Rattle.group_sink.specs.Hearings.{hearing_of}
pub use Rattle.multi_assist.specs.State.Links.{link_at, linked, mtu_of, slots_of, with_assistant_on}
pub use Rattle.multi_assist.specs.State.Places.{asking, Linked, assistant_in, first_of, without_first, with_notices, link_of}
pub use Rattle.multi_assist.specs.State.Terms.{joining}
pub use Rattle.multi_assist.specs.declared.links.Links.{Links}
pub use Rattle.pacs_records.specs.Layout.{greatest_value}
pub use Rattle.receive_state.specs.declared.state.ReceiveState.{ReceiveState}
pub use Rattle.scenario_sink.specs.Answers.{is_followed}
pub use Rattle.scenario_sink.specs.Making.{Goes, Makes, Stays, Turns, stayed, Quietly, slot_lines, LinkMakes, answer_if, LineMakes}
pub use Rattle.scenario_sink.specs.SinkHistory.{SinkHistory, new_sink, receiving, hearing_event, after_line}
pub use Rattle.scenario_sink.specs.State.Links.{LinkHolds, OnLink, AreHeard}
pub use Rattle.scenario_sink.specs.State.Stands.{HasStepped, Stands, after_call, LinkIs, IsSink, Took}
pub use Rattle.scenario_sink.specs.State.Taking.{Takes}
pub use Rattle.scenario_sink.specs.State.Untold.{its_mtu, untold, unless_told}
pub use Rattle.scenario_sink.specs.declared.sink.LinkedSink.{LinkedSink}
pub use Rattle.sink_history.proofs.Citable.{writes_one, notices_one, drop_nil, drop_one, taken_one_by_one}
pub use Rattle.sink_history.specs.Calls.{Call, joined, is_joined, stepped, asked, parted, read, served, notified, step_by, writes_waiting, steps_of, forged, joining_by, served_of, writes}
pub use Rattle.sink_history.specs.Drains.{IsApart, drained, repeated, served_out, notified_out, LeavesLink}
pub use Rattle.sink_history.specs.History.{Source, given_train, own_train, record_of}
pub use Rattle.sink_history.specs.Links.{Acts, Told, acts_of, delivered, language, notices_waiting, reads_waiting, state, read_first, notified_first}
pub use Rattle.sink_history.specs.Moves.{follows}
pub use Rattle.sink_history.specs.Octets.{IsAsked, AreOctets, IsWritten}
pub use Rattle.sink_history.specs.Output.{snapshot_in, Lines, if_there, drain_lines, read_line, read_lines, serve_line, serve_lines, stated, tell_line, tell_lines, viewed, printed_of, state_where, replied, notice_delivered, was_read}
pub use Rattle.sink_history.specs.Refusals.{refuse_if, refused_by, no_notice}
pub use Rattle.sink_history.specs.Steps.{IsStep, NotifiesLink}
pub use Rattle.transcript_text.specs.Labels.{label_of}
pub use Rattle.transcript_text.specs.SinkLines.{reply_line, value_line, sink_line, train_words, Label, train_line, forged_line, control_words, plain}
pub use Rattle.transcript_text.specs.declared.refusal.Refusal.{Refusal}
pub use Rattle.transcript_text.specs.declared.stop.Stop.{Stop}
pub use Rattle.transcript_text.specs.declared.refusal.Refusal.TheVariants.{RecordsTooLong, NoSuchLink, NothingWaiting, LinkTwice}
pub use Rattle.assistant_machine.proofs.Citable.{drop_more}
pub use Rattle.assistant_machine.specs.Answers.{IsCause}
pub use Rattle.delegator_machine.proofs.Citable.{groups_heard, steps_heard, stays_off}
pub use Rattle.multi_assist.specs.State.Gathering.{Gathers, StandsOn}
pub use Rattle.scenario_text.specs.declared.step.Step.TheVariants.{Add, Modify, Remove, Code, Assist, Apart, AWrite, AServe, ATell, ARead, ADrain, AShow}
pub use denote.Ref.{MutBor}
pub use Rattle.scenario_text.specs.Ranges.{IsInRange}

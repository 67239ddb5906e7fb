-- What the proofs of this crate use of `std` and of the crates below it, by one import.
pub use Rattle.std.proofs.Common.{ℕ, List, [], ◌∷◌, ◌++◌, Option, refl, arith, length-append, codes, decimal, ◌≡◌, ◌+◌, true, length, map, reverse, sym, ap, subst, ◌∙◌, append_assoc, None, Some, Ok, Err, inl, inr, append-nil, zero, suc, ◌*◌, ◌<◌, ◌≤◌, Bool, false, cond, nat_eq, not, ◌&&◌, ◌%◌, Result, ◌-◌, ◌≢◌, ◌/◌, leb}
pub use Rattle.std.proofs.lemmas.Bool.{lt-leb, ne_eqb, le-leb, le-ltb, cases_lt, leb-true, and_parts}
pub use Rattle.std.specs.List.{flat_map, concat, filter}
pub use Rattle.std.specs.Option.{option_map}
pub use Rattle.std.specs.Prelude.{⊤, replicate, is_some, IfSome, nat_le, slice_index}
pub use Rattle.bcast_io.proofs.Citable.{Appends-nothing, lines-nothing}
pub use Rattle.bcast_io.specs.TextLines.{TextLine, plain, too_long, past, line_limit, text_limit}
pub use Rattle.bcast_io.specs.Writing.{AppendsShort}
pub use Rattle.isoal_unframed.specs.Calls.{accept, lays, accepted, begun}
pub use Rattle.replay_generated.specs.Generated.{BoxFailed, lines_made, Did, EndedOver, GeneratedRun, IsDoneOrMemory, Summed}
pub use Rattle.replay_generated.specs.State.Between.{PrefixTaken, Ran, Told, Counted, LineRuns, Refuses, RunTo, Ends, Puts}
pub use Rattle.replay_generated.specs.State.Comings.{IsComing, Comes}
pub use Rattle.replay_generated.specs.declared.coming.Coming.{Coming}
pub use Rattle.replay_generated.specs.declared.running.Ending.{Ending}
pub use Rattle.replay_steps.proofs.Citable.{handed_line, box_fails, meets_at, unassigned_line, took_as, took_history, Failure, failure, no_room_for, unassigned_run, none_run}
pub use Rattle.replay_steps.specs.LineMeets.{refusal_at, LinesStand, LineMeets, output_at, answered_on}
pub use Rattle.scenario_history.specs.Boxes.{SinkUnit, handed_up, Took, RoomFor, box_of, accounts_after, box_after, closing, sink_numbers}
pub use Rattle.scenario_history.specs.Lines.{rules_of, said_after, handed_on, said_by, said_of, with_said, a_step, steps_of, refusal_said, said_in, Said, output_said}
pub use Rattle.scenario_history.specs.Refusals.{counter_ends, give_refusal, refusal_of}
pub use Rattle.scenario_history.specs.Runs.{through, refused, end_of, end_unless, Accepted, End, out, accepted_of, accepted_unless, brought}
pub use Rattle.scenario_history.specs.Steps.{version_of, chosen_of, Stage, running, chosen_given, is_common, is_source_line, last_given, stage_after, stage_of, steps_of_source, version_at}
pub use Rattle.scenario_history.specs.Transcript.{end_after, last_end_after, has_end, transcript_of, transcript_end, units_of, out_of}
pub use Rattle.scenario_lines.specs.Draws.{drawn, next_state}
pub use Rattle.scenario_lines.specs.Generated.{generated_lines, unit_of, head_lines, generated, text_of}
pub use Rattle.scenario_sinks.specs.Handing.{BoxFails}
pub use Rattle.scenario_text.specs.Lines.{LineIs}
pub use Rattle.scenario_text.specs.declared.step.Step.{Step}
pub use Rattle.scenario_words.specs.Digits.{digits}
pub use Rattle.scenario_words.specs.Joined.{joined}
pub use Rattle.sink_history.specs.Refusals.{refuse_if}
pub use Rattle.source_machine.specs.Airs.{airs_of, waiting_of, Airs}
pub use Rattle.source_machine.specs.Calls.{Call, give, event, events, stream_calls, given, Setup}
pub use Rattle.source_machine.specs.Faults.{give_fault, event_fault}
pub use Rattle.transcript_text.proofs.Citable.{whole_append, whole_none, counts_append, whole_ended}
pub use Rattle.transcript_text.specs.CountedLines.{lines_of, IsWhole}
pub use Rattle.transcript_text.specs.Lines.{newline, line_of, refusal_line}
pub use Rattle.transcript_text.specs.Summary.{summary_of, counts_of, none_counted, with_lines}
pub use Rattle.transcript_text.specs.declared.counts.Counts.{Counts}
pub use Rattle.transcript_text.specs.declared.refusal.Refusal.{Refusal}
pub use Rattle.transcript_text.specs.declared.refusal.Refusal.TheVariants.{NoOutlet}
pub use Rattle.unit_outlets.specs.Account.{Account}

-- What the proofs of this crate use of `std` and of the crates below it, by one import.
pub use Rattle.std.proofs.Common.{◌≡◌, ℕ, ◌++◌, ◌∷◌, true, List, reverse, refl, sym, ap, subst, ◌∙◌, append_assoc, arith, Option, Some, Result, Ok, inl, inr, ◌≢◌, Bool, false, None, ◌+◌, ◌≤◌, cond, [], length, length-append, ◌⊎◌, Err, map}
pub use Rattle.std.proofs.lemmas.Bool.{false≢true, lt-ltb, le-ltb, false_from_ne_true}
pub use Rattle.std.proofs.lemmas.List.{append-nil, length-reverse, reverse-append, reverse-reverse}
pub use Rattle.std.specs.Io.KnownBytes.{Appends, Keeps, Consumes, IsAtEnd}
pub use Rattle.bcast_base.specs.Counts.{Rose}
pub use Rattle.bcast_io.proofs.Citable.{AppendsPrefix-of_more, Consumes-nothing, Appends-then, AppendsPrefix-then, AppendsPrefix-nothing, Appends-nothing, lines-nothing, lines-unended, lines-end, lines-past_all}
pub use Rattle.bcast_io.specs.Documents.{ReadPrefix, document_limit, ReadWhole, ReadPast, ReadsDocument}
pub use Rattle.bcast_io.specs.State.Reading.{Reading, lines_after, MayFollow, lines_left, IsSound, IsPast, IsDone, BreaksOff}
pub use Rattle.bcast_io.specs.TextLines.{TextLine, lines_of, plain, too_long, past, text_limit}
pub use Rattle.bcast_io.specs.Writing.{AppendsPrefix, AppendsShort}
pub use Rattle.bcast_io.specs.declared.line_reader.LineRead.{LineRead}
pub use Rattle.bcast_io.specs.declared.line_reader.LineRead.TheVariants.{Line, LineTooLong, TextTooLong, End}
pub use Rattle.bcast_io.specs.declared.piece.Unread.{Unread}
pub use Rattle.bcast_io.specs.declared.source.Failed.{Failed}
pub use Rattle.replay_lines.specs.Documents.{DocumentIs, FaultCutIn, TomlCut, TomlOutlet, TomlWritten, WholeIs}
pub use Rattle.replay_lines.specs.Ended.{Complete, Ended, IsCut, AheadOf, RoomForText, IsWhole, NoneFailed}
pub use Rattle.replay_lines.specs.FromToml.{FromToml, TomlComplete, TomlEnding, DocumentLaws, Cut, Written}
pub use Rattle.replay_lines.specs.Heard.{as_told, Heard}
pub use Rattle.replay_lines.specs.Promised.{Promised, Did, DidOver}
pub use Rattle.replay_lines.specs.Replayed.{Broken, Comes, Done, FaultCut, OutletFaulted, RefusedAt, ReadsAtMost, read_limit, LineFails, ReadsAhead, ReadFaulted, brought_by, BoxesCut, CutAt, TextRead, NoEndCut, WriteCut, TookPrefix}
pub use Rattle.replay_lines.specs.Standing.{Standing, stands_for, refused_for, standing_by, cause_line, lines_over, transcript_over}
pub use Rattle.replay_lines.specs.State.Between.{RunTo, StepRuns, StepHeard, ReadTo, TextIs, NextIs, Refuses, Puts, LineRuns}
pub use Rattle.replay_lines.specs.State.Laws.{Laws, Same, AllSame}
pub use Rattle.replay_lines.specs.State.Runs.{over_text, RefusesDocument, DocumentRuns}
pub use Rattle.replay_lines.specs.Tellings.{Listened, tellings, listened, Telling, Tells, begun, rows_of, was_run}
pub use Rattle.replay_lines.specs.World.{World}
pub use Rattle.replay_lines.specs.declared.cause.Cause.TheVariants.{TooLong}
pub use Rattle.replay_lines.specs.declared.ending.Ending.{Ending}
pub use Rattle.replay_steps.proofs.Citable.{handed_line, took_as, took_history, unassigned_run, meets_at, unassigned_line, Failure, failure, no_room_for, box_fails, none_run}
pub use Rattle.replay_steps.specs.LineMeets.{refusal_at, output_at, LinesStand, answered_on, LineMeets, answered_said}
pub use Rattle.replay_steps.specs.Unassigned.{UnassignedSame, UnassignedBy, UnassignedRun}
pub use Rattle.replay_steps.specs.declared.machine.Machine.{Machine}
pub use Rattle.scenario_history.proofs.Citable.{took_all, reverse_onto, out_accepted, end_accepted, accepted_accepted}
pub use Rattle.scenario_history.specs.Airs.{MeetAirs}
pub use Rattle.scenario_history.specs.Boxes.{SinkUnit, Took, handed_up, box_of, RoomFor, accounts_after}
pub use Rattle.scenario_history.specs.Lines.{rules_of, handed_on, said_of, steps_of, refusal_said, said_by, Said, a_step, nothing, unsaid, said_after}
pub use Rattle.scenario_history.specs.Runs.{through, refused, brought, out, out_unless, accepted_of, accepted_unless, Accepted, end_of, Rules}
pub use Rattle.scenario_history.specs.Steps.{is_over, is_over_at, version_of}
pub use Rattle.scenario_history.specs.Transcript.{transcript_of, transcript_end, units_of, out_of, end_after, last_line_after, has_end, last_end_after}
pub use Rattle.scenario_sinks.proofs.Citable.{none_counts, took_stay, failed_one, one_then, accounts_append}
pub use Rattle.scenario_sinks.specs.Faults.{CountsStay, OneCounts}
pub use Rattle.scenario_sinks.specs.Handing.{CutShort, BoxFails}
pub use Rattle.scenario_text.specs.declared.step.Step.{Step}
pub use Rattle.scenario_toml.specs.Document.{meaning_of}
pub use Rattle.source_machine.specs.Airs.{Airs, airs_of}
pub use Rattle.transcript_text.specs.Lines.{refusal_line}
pub use Rattle.transcript_text.specs.declared.refusal.Refusal.{Refusal}
pub use Rattle.transcript_text.specs.declared.refusal.Refusal.TheVariants.{NoEnd, NoSuchSink}
pub use Rattle.transcript_text.specs.declared.stop.Stop.TheVariants.{Memory, Refused, OutletFault}
pub use Rattle.unit_outlets.specs.Account.{Account}
pub use Rattle.std.specs.Prelude.{IfOk, OnErr, not, is_some}
pub use Rattle.scenario_history.specs.Refusals.{no_sink, relayed_or, sink_refusal, source_refusal, twin_refusal, refusal_of, line_refusal}

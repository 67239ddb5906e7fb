-- What a document stands for, and what its run brings: the transcript of the lines that it stands for, or the line of its refusal.
-- The form of documents is this project's own.
use Rattle.std.specs.Prelude.{ℕ, nat_lt, true, List, [], length, Result, Ok, Err, if◌then◌else◌}
use Rattle.bcast_io.specs.TextLines.{TextLine, lines_of}
use Rattle.bcast_io.specs.Documents.{document_limit}
use Rattle.scenario_history.specs.Runs.{End}
use Rattle.scenario_history.specs.Boxes.{SinkUnit}
use Rattle.source_machine.specs.Airs.{Airs}
use Rattle.scenario_history.specs.Transcript.{transcript_of, transcript_end, units_of}
use Rattle.scenario_toml.specs.Document.{Meaning, no_toml, no_form, lines, meaning_of}
use Rattle.transcript_text.specs.Lines.{refusal_line}
use Rattle.transcript_text.specs.declared.refusal.Refusal.{Refusal}
use Rattle.transcript_text.specs.declared.refusal.Refusal.TheVariants as refusals
use Rattle.unit_outlets.specs.Account.{Account}
use Rattle.replay_lines.specs.declared.cause.Cause.{Cause}
use Rattle.replay_lines.specs.declared.cause.Cause.TheVariants.{TooLong, BadToml, BadDocument}

-- the text of lines, or the cause for which the document is refused
pub data Standing : Type 0 where
  refused_for : Cause → Standing
  stands_for : List ℕ → Standing

abbrev pub standing_by : Meaning → Standing
standing_by no_toml = refused_for BadToml
standing_by no_form = refused_for BadDocument
standing_by (lines octets) = stands_for octets

-- A document that is too long is refused for that, whatever it means.
unfoldable pub standing_of : List ℕ → Standing
standing_of document = if nat_lt document_limit (length document) then refused_for TooLong else standing_by (meaning_of document)

-- ---- what its run brings

abbrev pub reason_of : Cause → Refusal
reason_of TooLong = refusals.TextTooLong
reason_of BadToml = refusals.BadToml
reason_of BadDocument = refusals.BadDocument

-- the line of the refusal of a document has the number 0
abbrev pub cause_line : Cause → List ℕ
cause_line cause = refusal_line 0 (reason_of cause)

abbrev pub lines_over : Standing → List TextLine
lines_over (refused_for cause) = []
lines_over (stands_for octets) = lines_of true octets

-- TomlTranscript
abbrev pub transcript_over : Airs → List Account → Standing → List ℕ
transcript_over airs starts (refused_for cause) = cause_line cause
transcript_over airs starts (stands_for octets) = transcript_of airs starts (lines_of true octets)

abbrev pub end_over : Airs → List Account → Standing → Result (End Refusal) Cause
end_over airs starts (refused_for cause) = Err cause
end_over airs starts (stands_for octets) = Ok (transcript_end airs starts (lines_of true octets))

abbrev pub units_over : Airs → List Account → Standing → List SinkUnit
units_over airs starts standing = units_of airs starts (lines_over standing)

-- What the run of a document promises of the outside before it and after it, by how it ended. The program is this project's own.
use Rattle.std.specs.Prelude.{ℕ, ◌≡◌, ◌≢◌, ◌⊎◌, ◌+◌, List, Some, Result, Ok, Err}
use Rattle.bcast_base.specs.Counts.{Rose}
use Rattle.bcast_io.specs.Documents.{ReadPrefix, document_limit}
use Rattle.scenario_laws.specs.InTime.{InTimeLaw}
use Rattle.scenario_laws.specs.HearingLaw.{AllHearingLaw}
use Rattle.scenario_laws.specs.Isolation.{IsolationLaw}
use Rattle.scenario_history.specs.Runs.{End, through, refused}
use Rattle.scenario_laws.specs.Versions.{MigrationLaw}
use Rattle.scenario_laws.specs.Relayed.{RelayLinesLaw, RelayedUnitsLaw}
use Rattle.scenario_history.specs.Boxes.{RoomFor}
use Rattle.replay_lines.specs.Ended.{IsCut, IsDoneOrMemory, IsNoFault, IsWhole, NoneFailed}
use Rattle.replay_lines.specs.World.{World}
use Rattle.replay_lines.specs.declared.ending.Ending.{Ending}
use Rattle.replay_lines.specs.declared.ending.Ending.TheVariants as endings
use Rattle.scenario_history.specs.Airs.{MeetAirs}
use Rattle.scenario_history.specs.Boxes.{Took}
use Rattle.source_machine.specs.Airs.{Airs}
use Rattle.scenario_laws.specs.Laws.{UnitsLaw, OrderLaw}
use Rattle.scenario_laws.specs.Links.{AgreementLaw, LinksLaw}
use Rattle.scenario_laws.specs.Moments.{MomentLaw}
use Rattle.scenario_sinks.specs.Faults.{CountsStay, OneCounts}
use Rattle.transcript_text.specs.declared.refusal.Refusal.{Refusal}
use Rattle.unit_outlets.specs.Account.{Account}
use Rattle.replay_lines.specs.declared.cause.Cause.{Cause}
use Rattle.replay_lines.specs.Documents.{TomlWritten, TomlCut, TomlFaultCut, TomlUnread, TomlOutlet}
use Rattle.replay_lines.specs.Standing.{Standing, standing_of, transcript_over, end_over, units_over}

-- how the run of a document ended: as that of its lines did, or refused before it
abbrev pub TomlEnding : Type 0
TomlEnding = Result Ending Cause

abbrev pub WasWhole : TomlEnding → Type 0
WasWhole (Ok ending) = IsWhole ending
WasWhole (Err cause) = Unit {0}

abbrev pub WasCut : TomlEnding → Type 0
WasCut (Ok ending) = IsCut ending
WasCut (Err cause) = ⊥

abbrev pub WasThrough : TomlEnding → Type 0
WasThrough (Ok ending) = IsDoneOrMemory ending
WasThrough (Err cause) = ⊥

abbrev pub WasNoFault : TomlEnding → Type 0
WasNoFault (Ok ending) = IsNoFault ending
WasNoFault (Err cause) = Unit {0}

abbrev pub Written : Result (End Refusal) Cause → World → World → Type 0
Written end old new = (airs : Airs) → MeetAirs airs → TomlWritten airs old.boxes new.boxes old.left new.left old.taken new.taken end

abbrev pub Cut : World → World → Type 0
Cut old new = (airs : Airs) → MeetAirs airs → TomlCut airs old.boxes new.boxes old.left new.left old.taken new.taken

abbrev pub Unread : ℕ → World → World → Type 0
Unread most old new = TomlUnread most old.boxes new.boxes old.left new.left old.taken new.taken

-- `Complete` of the lines that the document stands for
pub record TomlComplete (airs : Airs) (standing : Standing) (starts ends : List Account) (read read' write write' : ℕ)
    (result : TomlEnding) : Type 0 where
  pub through_all : end_over airs starts standing ≡ Ok through
      → ¬ Rose read read' → ¬ Rose write write' → NoneFailed starts ends → WasThrough result
  pub room : RoomFor starts (units_over airs starts standing) → result ≢ Ok endings.OutletFault
  pub no_fault : RoomFor starts (units_over airs starts standing) → ¬ Rose read read' → ¬ Rose write write' → WasNoFault result

-- The laws, which hold of the lines of every document.
pub record DocumentLaws (boxes : List Account) : Type 0 where
  -- Some airs of the sources meet the relation of their framing, and any two that do give the same transcript.
  pub some_airs : (airs : Airs) × MeetAirs airs
  pub one_transcript : (airs : Airs) → (others : Airs) → MeetAirs airs → MeetAirs others → (standing : Standing)
      → transcript_over airs boxes standing ≡ transcript_over others boxes standing
  pub units_law : UnitsLaw boxes
  pub order_law : OrderLaw boxes
  pub moment_law : MomentLaw boxes
  pub in_time_law : InTimeLaw boxes
  pub hearing_law : AllHearingLaw boxes
  pub agreement_law : AgreementLaw
  pub links_law : LinksLaw
  pub migration_law : MigrationLaw boxes
  pub isolation_law : IsolationLaw boxes
  pub relay_law : RelayLinesLaw boxes
  pub relayed_units_law : RelayedUnitsLaw boxes

pub record FromToml (old new : World) (result : TomlEnding) : Type 0 where
  -- Done: the input was read to its end and is the document, no line that it stands for is refused, and its transcript was written.
  pub done : result ≡ Ok endings.Done → Written (Ok through) old new
  -- Refused: the transcript of the lines that the document stands for ends with this refusal of this line, and was written.
  pub refused : (line : ℕ) (reason : Refusal) → result ≡ Ok (endings.Refused line reason) → Written (Ok (refused line reason)) old new
  -- The document is refused for this cause, and the line of the refusal was written. One that is too long was read up to octet
  -- 1,048,577, and nothing behind that; each other one to its end.
  pub document_refused : (cause : Cause) → result ≡ Err cause → Written (Err cause) old new
  -- ReadFault: the source counted a fault before it gave octet 1,048,577, nothing was written, and no box was called.
  pub read_fault : result ≡ Ok endings.ReadFault → Rose old.reads new.reads × Unread document_limit old new
  -- WriteFault: the sink counted a fault, and a prefix of the transcript of the document was written.
  pub write_fault : result ≡ Ok endings.WriteFault → Rose old.writes new.writes × Cut old new
  -- OutletFault: the box of a unit counted a fault, and what comes before the line of that unit was written.
  pub outlet_fault : result ≡ Ok endings.OutletFault → (airs : Airs) → MeetAirs airs
      → TomlOutlet airs old.boxes new.boxes old.left new.left old.taken new.taken
  -- Memory: a prefix of the transcript of the document was written, or nothing where memory ran out before a line was run.
  pub memory : result ≡ Ok endings.Memory → Unread (document_limit + 1) old new ⊎ Cut old new
  pub no_read_fault : result ≢ Ok endings.ReadFault → new.reads ≡ old.reads
  pub no_write_fault : result ≢ Ok endings.WriteFault → new.writes ≡ old.writes
  -- Each box's count stays with each ending but OutletFault; or it is WriteFault or Memory, and what comes before the unit that a
  -- box refused wasn't written whole. The count of at most one box changes.
  pub no_outlet_fault : (airs : Airs) → MeetAirs airs → result ≢ Ok endings.OutletFault
      → CountsStay old.boxes new.boxes ⊎ (WasCut result × TomlFaultCut airs old.boxes new.boxes old.left new.left old.taken new.taken)
  pub one_outlet_fault : OneCounts old.boxes new.boxes
  -- The boxes took the units of the document, where its transcript was written to its end or to its refusal.
  pub boxes : (airs : Airs) → MeetAirs airs → (document : List ℕ) → old.left ≡ Some document → WasWhole result
      → Took old.boxes new.boxes (units_over airs old.boxes (standing_of document))
  -- What the outside does decides which endings can come.
  pub complete : (airs : Airs) → MeetAirs airs → (document : List ℕ) → old.left ≡ Some document
      → TomlComplete airs (standing_of document) old.boxes new.boxes old.reads new.reads old.writes new.writes result
  -- No more is read than octet 1,048,577.
  pub reads_at_most : ReadPrefix (document_limit + 1) old.left new.left
  -- What holds of every scenario holds of the lines that a document stands for.
  pub laws : DocumentLaws old.boxes

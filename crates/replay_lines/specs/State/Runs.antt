-- What the run of a document that was read wrote and handed to the boxes: `writes` and `writes'` are the sink's counts of faults.
use Rattle.std.specs.Prelude.{ℕ, ◌≡◌, ◌≢◌, List, Option, Some, Ok, Err}
use Rattle.std.specs.Io.KnownBytes.{Appends}
use Rattle.bcast_base.specs.Counts.{Rose}
use Rattle.bcast_io.specs.Writing.{AppendsPrefix, AppendsShort}
use Rattle.replay_lines.specs.Promised.{Promised}
use Rattle.replay_lines.specs.World.{World}
use Rattle.replay_lines.specs.declared.ending.Ending.{Ending}
use Rattle.replay_lines.specs.declared.ending.Ending.TheVariants as endings
use Rattle.unit_outlets.specs.Account.{Account}
use Rattle.replay_lines.specs.declared.cause.Cause.{Cause}
use Rattle.replay_lines.specs.FromToml.{TomlEnding}
use Rattle.replay_lines.specs.Standing.{Standing, refused_for, stands_for, cause_line}

-- the line of the refusal of a document was put to a sink
abbrev pub Refuses : Cause → Option (List ℕ) → Option (List ℕ) → TomlEnding → Type 0
Refuses cause kept kept' (Err why) = (why ≡ cause) × Appends kept kept' (cause_line cause)
Refuses cause kept kept' (Ok endings.WriteFault) = AppendsShort kept kept' (cause_line cause)
Refuses cause kept kept' (Ok endings.Memory) = AppendsPrefix kept kept' (cause_line cause)
Refuses cause kept kept' (Ok _) = ⊥

-- a document was refused, and no box was called
pub record RefusesDocument (cause : Cause) (starts ends : List Account) (kept kept' : Option (List ℕ)) (writes writes' : ℕ)
    (result : TomlEnding) : Type 0 where
  pub boxes : ends ≡ starts
  pub puts : Refuses cause kept kept' result
  pub write_fault : result ≡ Ok endings.WriteFault → Rose writes writes'
  pub no_write_fault : result ≢ Ok endings.WriteFault → writes' ≡ writes

-- what is outside where a text is run that is in memory
abbrev pub over_text : Option (List ℕ) → Option (List ℕ) → ℕ → List Account → World
over_text left kept writes boxes = record { left = left; reads = 0; taken = kept; writes = writes; boxes = boxes }

-- the lines of a text were run, which was given by a source in memory
pub record RunsLines (text : List ℕ) (starts ends : List Account) (kept kept' : Option (List ℕ)) (writes writes' : ℕ)
    (ending : Ending) : Type 0 where
  pub left : Option (List ℕ)
  pub run : Promised (over_text (Some text) kept writes starts) (over_text left kept' writes' ends) ending

-- what a document that stands for this brought
abbrev pub DocumentRuns : Standing → List Account → List Account → Option (List ℕ) → Option (List ℕ) → ℕ → ℕ → TomlEnding → Type 0
DocumentRuns (refused_for cause) starts ends kept kept' writes writes' result =
    RefusesDocument cause starts ends kept kept' writes writes' result
DocumentRuns (stands_for text) starts ends kept kept' writes writes' (Ok ending) =
    RunsLines text starts ends kept kept' writes writes' ending
DocumentRuns (stands_for text) starts ends kept kept' writes writes' (Err cause) = ⊥

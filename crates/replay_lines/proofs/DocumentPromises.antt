-- What is promised of a document that was read.
use Rattle.replay_lines.proofs.Prelude.{◌≡◌, ◌≢◌, ℕ, List, Option, Some, Result, Ok, Err, ReadsDocument, Unread, Promised, World, Ending, Account, DocumentIs, DocumentLaws, FromToml, TomlEnding, Standing, refused_for, stands_for, cause_line, DocumentRuns, over_text, arith}
use Rattle.bcast_io.specs.declared.document.Document.{Document}
use Rattle.replay_lines.specs.declared.ending.Ending.TheVariants as endings
use Rattle.replay_lines.proofs.Unread.{refused_toml}
use Rattle.replay_lines.proofs.Running.{ending_is, never_fails, ran_toml}
use Rattle.replay_lines.proofs.Endings.{prefix_none}

-- what was read, by the answer
pub read_at : (left left' : Option (List ℕ)) (answer other : Result Document Unread) → answer ≡ other
    → ReadsDocument left left' answer → ReadsDocument left left' other
read_at left left' answer other is reads = grind arith

-- the document that was read was run or refused
pub read_toml : (old new : World) (standing : Standing) (result : TomlEnding) → DocumentIs old.left new.left standing
    → DocumentRuns standing old.boxes new.boxes old.taken new.taken old.writes new.writes result
    → new.reads ≡ old.reads → DocumentLaws old.boxes → FromToml old new result
read_toml old new (refused_for cause) result document runs reads laws = refused_toml old new cause result document runs reads laws
read_toml old new (stands_for text) (Ok ending) document runs reads laws = ran_toml old new text document runs.left ending runs.run reads
read_toml old new (stands_for text) (Err cause) document runs reads laws = absurd runs

-- a document that stands for the same
pub runs_as : (standing other : Standing) (starts ends : List Account) (kept kept' : Option (List ℕ)) (writes writes' : ℕ)
    (result : TomlEnding) → standing ≡ other
    → DocumentRuns other starts ends kept kept' writes writes' result → DocumentRuns standing starts ends kept kept' writes writes' result
runs_as standing other starts ends kept kept' writes writes' result is runs = grind arith

-- the lines of a text were run, which a source gave that had it
pub runs_text : (text had : List ℕ) (left : Option (List ℕ)) (starts ends : List Account) (kept kept' : Option (List ℕ)) (writes writes' : ℕ) (ending : Ending)
    → had ≡ text → Promised (over_text (Some had) kept writes starts) (over_text left kept' writes' ends) ending
    → DocumentRuns (stands_for text) starts ends kept kept' writes writes' (Ok ending)
runs_text text had left starts ends kept kept' writes writes' ending is promised = grind (arith, over_text)

-- memory ran out before the lines of the document were there
pub wanting_at_once : (standing : Standing) (boxes : List Account) (kept : Option (List ℕ)) (writes : ℕ)
    → ((old : World) → Promised old old endings.Memory) → DocumentRuns standing boxes boxes kept kept writes writes (Ok endings.Memory)
wanting_at_once (refused_for cause) boxes kept writes promised = grind (arith, prefix_none, cause_line)
wanting_at_once (stands_for text) boxes kept writes promised =
    record { left = Some text; run = promised (over_text (Some text) kept writes boxes) }

-- a document that was read doesn't bring a read fault
pub ran_unfailed : (standing : Standing) (starts ends : List Account) (kept kept' : Option (List ℕ)) (writes writes' : ℕ)
    (result : TomlEnding) → DocumentRuns standing starts ends kept kept' writes writes' result → result ≢ Ok endings.ReadFault
ran_unfailed standing starts ends kept kept' writes writes' result runs is = grind (arith, never_fails, ending_is)

-- What a listener changes at a line, and what it was told once one line more was run, or where a run ended.
use Rattle.replay_lines.proofs.Prelude.{◌≡◌, ℕ, ◌+◌, true, false, List, [], ◌∷◌, ◌++◌, length, arith, Option, None, Some, append_assoc, Appends, Keeps, Reading, TextLine, plain, AppendsPrefix, Appends-nothing, Appends-then, AppendsPrefix-then, Comes, ReadTo, TextIs, Listened, Telling, Tells, begun, rows_of, tellings, was_run, Ending, ◌≢◌, ReadsAhead, Bool, refl, ap, inl, Rose, Account, airs_of, Airs, Machine, Ended, Heard, as_told, Broken, ReadsAtMost, read_limit, RunTo, StepRuns, StepHeard, Laws, World}
use Rattle.replay_lines.specs.Listening.{EndsAt, EndsText, HasTold, LineTold, StepTold, Told, ToldBefore, ToldUpTo}
use Rattle.replay_lines.proofs.ReadingOn.{read_none}
use Rattle.replay_lines.specs.declared.ending.Ending.TheVariants as endings
use Rattle.replay_lines.proofs.LineEndings.{step_memory}
use Rattle.replay_lines.proofs.Promises.{promised_run}

pub kept_on : (a b c : Option (List ℕ)) (xs : List ℕ) → Appends a b xs → Keeps b c → Appends a c xs
kept_on a b c xs p q = grind arith

-- the lines so far were run, and the sink kept what they brought
pub run_kept : {starts : List Account} {history : List TextLine} {kept mid kept' : Option (List ℕ)} {machine : Machine}
    {accounts : List Account}
    → RunTo starts history kept mid machine accounts → Keeps mid kept' → RunTo starts history kept kept' machine accounts
run_kept run keeps = grind (arith, kept_on)

-- what an ending says, it says beside a listener too
module _ (airs : Airs) (starts ends : List Account) (left left' kept kept' : Option (List ℕ)) where
  pub ended_told : (may_fail : Bool) (ending : Ending) → Ended airs ending starts ends left left' kept kept'
      → Ended airs (as_told may_fail ending) starts ends left left' kept kept'
  ended_told false ending e = e
  ended_told true endings.WriteFault e = e.0
  ended_told true _ e = e

  -- whatever may be told of the listener, it may fail
  pub told_more : (may_fail : Bool) (ending : Ending) → Ended airs (as_told may_fail ending) starts ends left left' kept kept'
      → Ended airs (as_told true ending) starts ends left left' kept kept'
  told_more may_fail ending e = grind arith

-- it failed, or wanted memory
module _ {airs : Airs} {starts ends : List Account} {left left' kept kept' : Option (List ℕ)} where
  pub failed_told : (may_fail : Bool) → may_fail ≡ true → Broken airs starts ends left left' kept kept'
      → Ended airs (as_told may_fail endings.WriteFault) starts ends left left' kept kept'
  failed_told false may broken = absurd cc
  failed_told true may broken = broken

  pub wanted_told : (may_fail : Bool) → Broken airs starts ends left left' kept kept'
      → Ended airs (as_told may_fail endings.Memory) starts ends left left' kept kept'
  wanted_told false broken = broken
  wanted_told true broken = broken

-- a line was run
pub step_told : (may_fail : Bool) (starts : List Account) (lines : List TextLine) (left left' kept kept' : Option (List ℕ)) (machine : Machine)
    (accounts : List Account) (result : Option Ending) → StepRuns starts lines left left' kept kept' machine accounts result
    → StepHeard may_fail starts lines left left' kept kept' machine accounts result
step_told may_fail starts lines left left' kept kept' machine accounts result s = grind (arith, airs_of)

-- the run ends before a line
pub broken_before : {starts : List Account} {history : List TextLine} {line : TextLine} {left left' kept mid kept' : Option (List ℕ)}
    {machine : Machine}
    {accounts : List Account} {number : ℕ} → number ≡ length history + 1 → Comes left left' history line → ReadsAhead left left' number
    → RunTo starts history kept mid machine accounts → Keeps mid kept' → Broken airs_of starts accounts left left' kept kept'
broken_before {accounts = accounts} is_next comes ahead run keeps = step_memory is_next comes ahead (run_kept run keeps) accounts (inl refl)

-- ---- what is promised

never_write : (ending : Ending) → as_told true ending ≢ endings.WriteFault
never_write ending is = grind arith

read_told : (ending : Ending) → as_told true ending ≡ endings.ReadFault → ending ≡ endings.ReadFault
read_told ending is = grind arith

pub heard_run : (may_fail : Bool) (old new : World) (ending : Ending)
    → Ended airs_of (as_told may_fail ending) old.boxes new.boxes old.left new.left old.taken new.taken
    → ReadsAtMost old.left new.left read_limit → (ending ≡ endings.ReadFault → Rose old.reads new.reads)
    → (ending ≢ endings.ReadFault → new.reads ≡ old.reads) → (ending ≡ endings.WriteFault → Rose old.writes new.writes)
    → (ending ≢ endings.WriteFault → new.writes ≡ old.writes) → Laws old.boxes → Heard old new ending
heard_run may_fail old new ending e within read no_read write no_write laws = record {
  run = promised_run old (record { left = new.left; reads = new.reads; taken = new.taken; writes = old.writes; boxes = new.boxes })
      (as_told true ending) (told_more airs_of old.boxes new.boxes old.left new.left old.taken new.taken may_fail ending e) within
      (λ is. read (read_told ending is)) (λ other. no_read (λ is. other (ap (as_told true) is)))
      (λ is. absurd (never_write ending is)) (λ other. refl) laws;
  write_fault = write;
  no_write_fault = no_write;
}

-- ---- what it was told

tells_none : (told : Option (List Telling)) → Tells told told []
tells_none told = grind arith

tells_then : (a b c : Option (List Telling)) (first then : List Telling) → Tells a b first → Tells b c then → Tells a c (then ++ first)
tells_then a b c first then p q = grind (arith, append_assoc)

module _ (row : ℕ → List ℕ → List ℕ) (start old : Listened) (lines : List TextLine) (number : ℕ) (line : List ℕ)
    (has : HasTold row start old (tellings lines)) (is_next : number ≡ length lines + 1) where
  -- the line began, was run, and its end was told
  pub has_run : (begins new : Option (List Telling)) (rows rows' : Option (List ℕ)) → Tells old.told begins (begun number line ∷ [])
      → Appends old.rows rows (row number line) → Keeps rows rows' → Tells begins new (was_run line ∷ [])
      → HasTold row start (record { told = new; rows = rows' }) (tellings (plain line ∷ lines))
  has_run begins new rows rows' first shown kept last = grind (arith, tells_then, kept_on, Appends-then)

  -- the listener failed at the line
  pub told_before : (left left' : Option (List ℕ)) (begins : Option (List Telling)) (rows : Option (List ℕ)) → Comes left left' lines (plain line)
      → Tells old.told begins (begun number line ∷ []) → AppendsPrefix old.rows rows (row number line)
      → ToldBefore row left left' start (record { told = begins; rows = rows })
  told_before left left' begins rows comes first shown = record {
    earlier = lines;
    line = line;
    comes = comes;
    counted = grind (arith, tells_then);
    shown = grind (arith, AppendsPrefix-then);
  }

pub has_kept : (row : ℕ → List ℕ → List ℕ) (start old : Listened) (rows : Option (List ℕ)) (more : List Telling) → HasTold row start old more → Keeps old.rows rows
    → HasTold row start (record { told = old.told; rows = rows }) more
has_kept row start old rows more has kept = grind (arith, kept_on, rows_of)

module _ (row : ℕ → List ℕ → List ℕ) (left left' : Option (List ℕ)) (start new : Listened) (lines : List TextLine) where
  -- the run goes on behind a line or ended at it
  pub told_at : (line : TextLine) (number : ℕ) (result : Option Ending) → Comes left left' lines line → number ≡ length lines + 1 → EndsAt number result
      → HasTold row start new (tellings (line ∷ lines)) → StepTold row left left' start new (line ∷ lines) result
  told_at line number result comes is_next at has =
      let upto : ToldUpTo row left left' start new number = record
      { earlier = lines; line = line; comes = comes; is_next = is_next; has = has } in
      grind arith

  -- it ended behind the last line
  pub told_text : (ending : Ending) → TextIs left left' lines true → EndsText ending → HasTold row start new (tellings lines)
      → Told row left left' start new ending
  told_text ending text ends has = grind arith

  -- the next line was read
  pub told_line : (line : TextLine) (reader : Reading) (result : Option Ending) → ReadTo left left' (line ∷ lines) reader
      → StepTold row left left' start new (line ∷ lines) result → LineTold row left left' start new lines reader result
  told_line line reader result read told = grind arith

-- ---- the loop

-- the lines so far were read and told
pub record TellingOn (row : ℕ → List ℕ → List ℕ) (left left' : Option (List ℕ)) (start now : Listened) (number : ℕ) (reader : Reading) : Type 0 where
  pub lines : List TextLine
  pub is_next : number ≡ length lines + 1
  pub read : ReadTo left left' lines reader
  pub has : HasTold row start now (tellings lines)

pub has_none : (row : ℕ → List ℕ → List ℕ) (start : Listened) → HasTold row start start []
has_none row start = record { counted = tells_none start.told; shown = Appends-nothing start.rows }

pub telling_none : (row : ℕ → List ℕ → List ℕ) (left : Option (List ℕ)) (start : Listened) (reader : Reading)
    → reader ≡ record { ahead = []; part = []; taken = 0; over = false; line = None } → TellingOn row left left start start 1 reader
telling_none row left start reader new = grind (arith, read_none left reader new, has_none row start)

-- the next line was run
module _ {row : ℕ → List ℕ → List ℕ} {left mid : Option (List ℕ)} {start old : Listened} {number : ℕ} {reader : Reading}
    (t : TellingOn row left mid start old number reader) (left' : Option (List ℕ)) (new : Listened) (reader' : Reading)
    (result : Option Ending)
    (told : (lines : List TextLine) → number ≡ length lines + 1 → ReadTo left mid lines reader → HasTold row start old (tellings lines)
    → LineTold row left left' start new lines reader' result) where
  pub telling_more : result ≡ None → TellingOn row left left' start new (number + 1) reader'
  telling_more none = grind arith

  pub telling_ends : (ending : Ending) → result ≡ Some ending → Told row left left' start new ending
  telling_ends ending some = grind arith

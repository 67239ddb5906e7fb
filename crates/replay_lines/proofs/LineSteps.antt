-- What the loop of `replay` does at a line, put together.
use Rattle.replay_lines.proofs.Prelude.{◌≡◌, ◌≢◌, ℕ, ◌+◌, ◌≤◌, Bool, false, true, List, [], ◌∷◌, length, refl, sym, subst, arith, Option, None, Some, Ok, TextLine, plain, too_long, past, text_limit, Reading, lines_left, LineRead, Line, LineTooLong, TextTooLong, End, Account, airs_of, Ending, Machine, steps_of, UnassignedSame, unassigned_line, LinesStand, Comes, ReadsAhead, Ended, as_told, ReadTo, TextIs, NextIs, RunTo, Refuses, StepHeard, LineRuns, Appends-nothing, ◌++◌, reverse, ap, ◌∙◌, append_assoc, IsAtEnd, MayFollow, lines_after, lines_of, UnassignedRun}
use Rattle.transcript_text.specs.declared.refusal.Refusal.TheVariants as refusals
use Rattle.replay_lines.proofs.ReadingOn.{read_none, comes_of, ahead_of}
use Rattle.replay_lines.proofs.LineEndings.{ends_refusal}
use Rattle.replay_lines.proofs.Completing.{told}

-- ---- a line

ahead_at : {left left' : Option (List ℕ)} {m n : ℕ} → m ≡ n → ReadsAhead left left' m → ReadsAhead left left' n
ahead_at e a = rw e at a

pub line_ahead : {left left' : Option (List ℕ)} {history : List TextLine} {reader : Reading} {line : TextLine} {number : ℕ}
    → number ≡ length history + 1 → ReadTo left left' (line ∷ history) reader → ReadsAhead left left' number
line_ahead is_next r = ahead_at (omega arith) (ahead_of r)

module _ {starts : List Account} {history : List TextLine} {left left' kept mid : Option (List ℕ)} {machine : Machine}
    {accounts : List Account} {number : ℕ}
    (is_next : number ≡ length history + 1) (run : RunTo starts history kept mid machine accounts) (kept' : Option (List ℕ))
    (ending : Ending) where
  pub line_past : Comes left left' history past × ReadsAhead left left' (length history + 1)
      → Refuses number refusals.TextTooLong mid kept' ending → Ended airs_of ending starts accounts left left' kept kept'
  line_past n f = ends_refusal is_next n.0 (ahead_at (sym is_next) n.1) run kept' refusals.TextTooLong refl ending f

  pub line_long : {reader : Reading} → ReadTo left left' (too_long ∷ history) reader → Refuses number refusals.LineTooLong mid kept' ending
      → Ended airs_of ending starts accounts left left' kept kept'
  line_long n f = ends_refusal is_next (comes_of n) (line_ahead is_next n) run kept' refusals.LineTooLong refl ending f

-- the line that a reader lends
pub line_read : {left left' : Option (List ℕ)} {history : List TextLine} {reader : Reading} (lent : List ℕ)
    → NextIs left left' history reader (Ok Line) → reader.line ≡ Some lent → ReadTo left left' (plain lent ∷ history) reader
line_read lent n is = grind (arith, plain)

-- no other read is left than the end of the text
pub ended_at : {left left' : Option (List ℕ)} {history : List TextLine} (reader : Reading) (read : LineRead)
    → NextIs left left' history reader (Ok read) → read ≢ Line → read ≢ TextTooLong → read ≢ LineTooLong → TextIs left left' history true
ended_at reader End next no_line no_past no_long = next
ended_at reader Line next no_line no_past no_long = absurd (no_line refl)
ended_at reader TextTooLong next no_line no_past no_long = absurd (no_past refl)
ended_at reader LineTooLong next no_line no_past no_long = absurd (no_long refl)

pub step_line : (may_fail : Bool) (starts : List Account) (history : List TextLine) (line : TextLine) (left left' kept kept' : Option (List ℕ)) (reader : Reading) (machine : Machine) (accounts : List Account)
    (result : Option Ending) → ReadTo left left' (line ∷ history) reader → StepHeard may_fail starts (line ∷ history) left left' kept kept' machine accounts result
    → LineRuns may_fail starts history left left' kept kept' reader machine accounts result
step_line may_fail starts history line left left' kept kept' reader machine accounts result r s = grind arith

-- ---- the loop

-- the lines so far were read and run
pub record Running {A : Type 0} (olds news : List A) (starts accounts : List Account) (left left' kept kept' : Option (List ℕ)) (number : ℕ) (reader : Reading) (machine : Machine)
    : Type 0 where
  pub lines : List TextLine
  pub is_next : number ≡ length lines + 1
  pub read : ReadTo left left' lines reader
  pub run : RunTo starts lines kept kept' machine accounts
  pub unassigned : UnassignedSame (steps_of airs_of lines) olds news

pub running_none : {A : Type 0} (olds : List A) (starts : List Account) (left kept : Option (List ℕ)) (reader : Reading) (machine : Machine)
    → reader ≡ record { ahead = []; part = []; taken = 0; over = false; line = None } → ((start : List Account) → LinesStand start [] machine start)
    → Running olds olds starts starts left left kept kept 1 reader machine
running_none olds starts left kept reader machine new stands =
    let read = read_none left reader new in
    let stand = stands starts in
    let written = Appends-nothing kept in
    grind arith

pub bound_none : (reader : Reading) → reader ≡ record { ahead = []; part = []; taken = 0; over = false; line = None } → 1 + lines_left reader ≤ text_limit + 2
bound_none reader new = let P : Reading → Type 0 = λ r. 1 + lines_left r ≤ text_limit + 2 in subst P (sym new) (omega arith)

-- the next line was run, or the run ended at it
module _ {A : Type 0} {olds mids : List A} {starts before : List Account} {left mid kept put : Option (List ℕ)} {number : ℕ} {old : Reading}
    {machine : Machine} (r : Running olds mids starts before left mid kept put number old machine) (may_fail : Bool) (after : List Account)
    (left' kept' : Option (List ℕ)) (new : Reading) (machine' : Machine) (result : Option Ending)
    (runs : (lines : List TextLine) → number ≡ length lines + 1 → ReadTo left mid lines old → RunTo starts lines kept put machine before
    → LineRuns may_fail starts lines left left' kept kept' new machine' after result) where
  pub running_more : (news : List A) → result ≡ None
      → ((lines : List TextLine) → LinesStand starts lines machine before → UnassignedSame (steps_of airs_of lines) mids news)
      → Running olds news starts after left left' kept kept' (number + 1) new machine'
  running_more news none same =
      let P : Option Ending → Type 0 = λ x. LineRuns may_fail starts r.lines left left' kept kept' new machine' after x in
      let m = subst P none (runs r.lines r.is_next r.read r.run) in
      record {
        lines = m.0 ∷ r.lines;
        is_next = omega (arith, r.is_next);
        read = m.1;
        run = m.2;
        unassigned = unassigned_line m.0 r.lines olds mids news r.unassigned (same r.lines r.run.stands);
      }

  pub running_ends : (ending : Ending) → result ≡ Some ending → Ended airs_of (as_told may_fail ending) starts after left left' kept kept'
  running_ends ending some =
      let P : Option Ending → Type 0 = λ x. LineRuns may_fail starts r.lines left left' kept kept' new machine' after x in
      subst P some (runs r.lines r.is_next r.read r.run)

-- ---- the boxes that no line of a text took, where its source tells it

-- the lines of a text are those that were read and then others
lines_told : (text : List ℕ) (left left' : Option (List ℕ)) (lines : List TextLine) (reader : Reading) → left ≡ Some text → ReadTo left left' lines reader
    → (later : List TextLine) × (lines_of true text ≡ reverse lines ++ later)
lines_told text left left' lines reader is r =
    let t = told text left left' (r.passed ++ reader.ahead) is r.consumed in
    let more : List ℕ = reader.ahead ++ t.0 in
    let all : text ≡ r.passed ++ more = t.2 ∙ append_assoc r.passed reader.ahead t.0 in
    let follows : MayFollow reader.over true more =
    λ over. (refl, ap (λ prefix. prefix ++ t.0) (r.sound.ended over).0 ∙ subst IsAtEnd t.1 (r.at_end over)) in
    (lines_after true reader more, ap (lines_of true) all ∙ r.begins true more follows)

-- the last line was run
pub unassigned_at : {A : Type 0} {olds mids : List A} {starts accounts : List Account} {left mid kept kept' : Option (List ℕ)} {number : ℕ}
    {reader : Reading} {machine : Machine} (news : List A) (r : Running olds mids starts accounts left mid kept kept' number reader machine)
    → ((lines : List TextLine) → LinesStand starts lines machine accounts → UnassignedSame (steps_of airs_of lines) mids news)
    → (text : List ℕ) → left ≡ Some text → UnassignedRun starts (lines_of true text) olds news
unassigned_at {left = left} {mid = mid} {reader = reader} news r same text is =
    let at = lines_told text left mid r.lines reader is r.read in
    record {
      earlier = r.lines;
      later = at.0;
      split = at.1;
      accepted = r.run.accepted;
      same = λ box least. same r.lines r.run.stands box least ∙ r.unassigned box least;
    }

-- A line by its step.
use Rattle.replay_steps.proofs.Prelude.{◌≡◌, ℕ, ◌≤◌, List, [], ◌∷◌, ◌++◌, length, inl, inr, None, Some, Result, Ok, Err, refl, sym, ◌∙◌, ap, subst, arith, TextLine, plain, Account, airs_of, happened, with_relayed_units, append-nil, read_of, Step, sinks_made, sinks_made_by, version_at, version_of, hands_alike, left_by_relayed_units, stage_happened, stage_of, running, passes_both, accounts_after, handed_by, handed_up, is_relayed, a_step, said_of, steps_of, said_by, said_after, with_said, refusal_said, output_said, handed_said, Machine, Stop, OutletFault, Memory, Stands, BoxesStand, Meets, StepMeets, accounts_append, Airs, SinkUnit, Took, handed_happened, Said, handed_on, took_all}
use Rattle.scenario_history.specs.Refusals.{refusal_of}
use Rattle.replay_steps.specs.LineMeets.{LineMeets, LinesStand}
use Rattle.replay_steps.proofs.StepLaws.{goes_on_in, meets_step}

room_stays : (boxes : ℕ) (earlier : List Step) (made : Step) → refusal_of airs_of boxes earlier made ≡ None → sinks_made earlier ≤ boxes → sinks_made (made ∷ earlier) ≤ boxes
room_stays boxes earlier _ e room = grind arith

boxes_go_on : (starts before after : List Account) (earlier : List Step) (made : Step) → BoxesStand starts earlier before → refusal_of airs_of (length starts) earlier made ≡ None
    → after ≡ accounts_after before (handed_by airs_of earlier made) → BoxesStand starts (made ∷ with_relayed_units airs_of earlier made) after
boxes_go_on starts before after earlier made boxes e a =
    let left = left_by_relayed_units airs_of earlier made in
    record {
      accounts_are = grind (arith, accounts_after, handed_by, airs_of, accounts_append, handed_up, hands_alike);
      room = subst (λ count. sinks_made_by made count ≤ length starts) (sym left.sinks) (room_stays (length starts) earlier made e boxes.room);
    }

-- ---- lines that say a step

-- what happens by one line more
one_more : (lines : List TextLine) (line : TextLine) (made : Step) → said_after lines line ≡ a_step made
    → steps_of airs_of (line ∷ lines) ≡ made ∷ with_relayed_units airs_of (steps_of airs_of lines) made
one_more lines line made is = ap (λ said. happened airs_of (with_said said (said_of lines))) is

-- what a line that says a step does, by what the step does
said_meets : (starts : List Account) (lines : List TextLine) (line : TextLine) (made : Step) (new : Machine) (text told : List ℕ) (before after : List Account)
    (r : Result (Unit {0}) Stop) → BoxesStand starts (steps_of airs_of lines) before → said_after lines line ≡ a_step made
    → StepMeets starts (steps_of airs_of lines) made new text told before after r → LineMeets starts lines line new text told before after r
said_meets starts lines line made new text told before after (Ok x) boxes is m =
    let made_before : List Step = steps_of airs_of lines in
    let more = one_more lines line made is in
    let passes = passes_both (is_relayed made_before made) (refusal_of airs_of (length starts) made_before made) m.0 in (
      ap (refusal_said airs_of (length starts) made_before) is ∙ m.0,
      record {
        stands = (let P : List Step → Type 0 = λ s. Stands s new in subst P (sym more) m.1);
        boxes = (let P : List Step → Type 0 = λ s. BoxesStand starts s after in subst P (sym more)
            (boxes_go_on starts before after made_before made boxes passes m.3));
      },
      m.2 ∙ ap (λ s. text ++ output_said airs_of starts made_before s) (sym is),
      m.3 ∙ ap (λ s. accounts_after before (handed_said airs_of made_before s)) (sym is),
    )
said_meets starts lines line made new text told before after (Err OutletFault) boxes is m = grind (arith, refusal_said, airs_of, length, steps_of, handed_said, output_said)
said_meets starts lines line made new text told before after (Err Memory) boxes is (inl same) = inl same
said_meets starts lines line made new text told before after (Err Memory) boxes is (inr m) = grind (arith, refusal_said, airs_of, length, steps_of, handed_said)
said_meets starts lines line made new text told before after r boxes is m = grind arith

-- the version of what happens is that of what the lines say
pub version_said : (lines : List TextLine) → version_of (steps_of airs_of lines) ≡ version_of (said_of lines)
version_said lines = ap version_at (stage_happened airs_of (said_of lines))

pub line_meets : (starts : List Account) (lines : List TextLine) (line : List ℕ) (version : ℕ) (made : Step) (new : Machine) (text told : List ℕ) (before after : List Account)
    (r : Result (Unit {0}) Stop) → BoxesStand starts (steps_of airs_of lines) before → version ≡ version_of (said_of lines)
    → read_of version line ≡ Ok (Some made)
    → StepMeets starts (steps_of airs_of lines) made new text told before after r → LineMeets starts lines (plain line) new text told before after r
line_meets starts lines line version made new text told before after r boxes is reads m =
    said_meets starts lines (plain line) made new text told before after r boxes (ap (λ v. said_by (read_of v line)) (sym is) ∙ ap said_by reads) m

-- a line that says a step where the scenario began and isn't over, by what the step does, which hands up nothing
pub runs_line : (starts accounts : List Account) (version : ℕ) (lines : List TextLine) (line : List ℕ) (machine new : Machine) (text told : List ℕ) (made : Step)
    (r : Result (Unit {0}) Stop) → LinesStand starts lines machine accounts → stage_of (steps_of airs_of lines) ≡ running version
    → ((version : ℕ) → read_of version line ≡ Ok (Some made))
    → ((accounts : List Account) → Meets starts (steps_of airs_of lines) made new text told accounts accounts r)
    → LineMeets starts lines (plain line) new text told accounts accounts r
runs_line starts accounts version lines line machine new text told made r stand e reads m =
    let steps : List Step = steps_of airs_of lines in
    line_meets starts lines line (version_of (said_of lines)) made new text told accounts accounts r stand.boxes refl (reads (version_of (said_of lines)))
    (meets_step starts steps made new text told accounts accounts r (goes_on_in version steps e) (m accounts))

-- ---- lines that say no step

-- an empty line, or a comment
pub none_meets : (starts : List Account) (lines : List TextLine) (line : List ℕ) (version : ℕ) (machine : Machine) (text : List ℕ) (accounts : List Account)
    → LinesStand starts lines machine accounts → version ≡ version_of (said_of lines) → read_of version line ≡ Ok None
    → LineMeets starts lines (plain line) machine text text accounts accounts (Ok tt)
none_meets starts lines line version machine text accounts st is reads = grind (arith, append-nil)

pub nothing_handed : (starts : List Account) → BoxesStand starts [] starts
nothing_handed starts = record { accounts_are = refl; room = omega arith }

-- what it did from an empty text, by the result that came
pub meets_at : (starts : List Account) (history : List TextLine) (line : TextLine) (new : Machine) (text told : List ℕ) (before after : List Account)
    (result r : Result (Unit {0}) Stop) → text ≡ [] → result ≡ r → LineMeets starts history line new text told before after result
    → LineMeets starts history line new [] told before after r
meets_at starts history line new text told before after result r cleared is meets = grind arith

-- the memory that is kept for the octets of later units is no part of it
pub lines_beside : (starts : List Account) (lines : List TextLine) (machine new : Machine) (accounts : List Account) → new.stage ≡ machine.stage
    → new.sources ≡ machine.sources → new.sinks ≡ machine.sinks → new.relays ≡ machine.relays → LinesStand starts lines machine accounts → LinesStand starts lines new accounts
lines_beside starts lines machine new accounts stage sources sinks relays stand = grind arith

-- ---- what a line hands up comes behind what the lines before it did, and the boxes took it

handed_with : (airs : Airs) (earlier : List Step) (said : Said)
    → handed_up airs (happened airs (with_said said earlier)) ≡ handed_up airs (happened airs earlier) ++ handed_said airs (happened airs earlier) said
handed_with airs earlier said = grind (arith, handed_happened, append-nil)

-- the units of a line come behind those of the lines before it
pub handed_line : (airs : Airs) (history : List TextLine) (line : TextLine) → handed_up airs (steps_of airs (line ∷ history)) ≡ handed_up airs (steps_of airs history) ++ handed_on airs history line
handed_line airs history line = handed_with airs (said_of history) (said_after history line)

-- the boxes took the units of the history
pub took_history : (starts accounts : List Account) (history : List TextLine) → BoxesStand starts (steps_of airs_of history) accounts → Took starts accounts (handed_up airs_of (steps_of airs_of history))
took_history starts accounts history b = grind (arith, handed_up, airs_of, steps_of, took_all)

pub took_as : (starts accounts : List Account) (us vs : List SinkUnit) → us ≡ vs → Took starts accounts us → Took starts accounts vs
took_as starts accounts us vs e t = let P : List SinkUnit → Type 0 = λ u. Took starts accounts u in subst P e t

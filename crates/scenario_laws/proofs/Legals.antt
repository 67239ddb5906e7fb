-- The steps of lines of which none was refused, and what happens by them: each is in range, and no refusal holds of it after those
-- before it.
use Rattle.scenario_laws.proofs.Known.Sources.Steps.{ℕ, ◌≡◌, List, [], ◌∷◌, length, None, Some, Ok, arith, TextLine, Account, Accepted, Step, IsInRange, happened, Airs, a_step, nothing, unsaid, said_in, steps_of, with_said, refusal_said, rules_of, AreLegal, AreSaidLegally, read_of, Said, said_of, happens_legally, ◌≢◌, ◌≤◌, ◌==◌, cond, true, Option, cases_eq, cond-false, cond-true, eq-eqb, ne_eqb, eqb-true, false≢true, Call, chosen_of, is_of, ticked, ticked_if}

abbrev pub Legal : Airs → ℕ → List Step → Type 0
Legal airs boxes steps = AreLegal airs boxes steps

-- what the ranges of lines say
abbrev pub LinesInRange : Type 0
LinesInRange = (version : ℕ) → (line : List ℕ) → (step : Step) → read_of version line ≡ Ok (Some step) → IsInRange step

abbrev pub InRange : Said → Type 0
InRange (a_step step) = IsInRange step
InRange nothing = Unit {0}
InRange (unsaid reason) = Unit {0}

pub in_range : LinesInRange → (version : ℕ) (line : TextLine) → InRange (said_in version line)
in_range ranged version line = grind arith

legal_said : (airs : Airs) (boxes : ℕ) (earlier : List Step) (said : Said) → AreSaidLegally airs boxes earlier → InRange said
    → refusal_said airs boxes (happened airs earlier) said ≡ None → AreSaidLegally airs boxes (with_said said earlier)
legal_said airs boxes earlier (a_step this) before ranged none = (before, none, ranged)
legal_said airs boxes earlier said before ranged none = search

pub said_legally : LinesInRange → (airs : Airs) (starts : List Account) (lines : List TextLine) → Accepted (rules_of airs starts) lines
    → AreSaidLegally airs (length starts) (said_of lines)
said_legally ranged airs starts [] accepted = tt
said_legally ranged airs starts (line ∷ earlier) accepted =
    search (legal_said, in_range, said_legally ranged airs starts earlier accepted.0)

pub legal : LinesInRange → (airs : Airs) (starts : List Account) (lines : List TextLine) → Accepted (rules_of airs starts) lines
    → Legal airs (length starts) (steps_of airs lines)
legal ranged airs starts lines accepted = search (happens_legally, said_legally)

-- ---- which events a sink of one source closes by a step: those of its source alone

-- the sink is of this source
pub is_its : (s : ℕ) (source : Option ℕ) → is_of s source ≡ true → source ≡ Some s
is_its s source is = grind (arith, false≢true, eqb-true)

-- as the open event of source `c` is closed
pub event_ticks : (c s : ℕ) (opens : ℕ → Option ℕ) (calls : List Call) (source : Option ℕ) → source ≡ Some s
    → ticked_if (is_of c source) (opens c) calls ≡ cond (c == s) (ticked (opens s) calls) calls
event_ticks c s opens calls source is = grind (arith, ticked_if, is_of, cases_eq, eq-eqb, ticked, cond-true, ne_eqb, cond-false)

end_of : (s : ℕ) (opens : ℕ → Option ℕ) (calls : List Call) → s ≤ 1
    → ticked_if (is_of 1 (Some s)) (opens 1) (ticked_if (is_of 0 (Some s)) (opens 0) calls) ≡ ticked (opens s) calls
end_of s opens calls least = grind arith

-- at `end`
pub end_ticks : (s : ℕ) (opens : ℕ → Option ℕ) (calls : List Call) (source : Option ℕ) → s ≤ 1 → source ≡ Some s
    → ticked_if (is_of 1 source) (opens 1) (ticked_if (is_of 0 source) (opens 0) calls) ≡ ticked (opens s) calls
end_ticks s opens calls source least is = cc (is, end_of s opens calls least)

-- ---- the sources are 0 and 1

pub chosen_within : (airs : Airs) (boxes : ℕ) (made : List Step) → Legal airs boxes made → chosen_of made ≤ 1
chosen_within airs boxes [] legal = omega arith
chosen_within airs boxes (Step.Source source ∷ earlier) legal = legal.2
chosen_within airs boxes (_ ∷ earlier) legal = chosen_within airs boxes earlier legal.0

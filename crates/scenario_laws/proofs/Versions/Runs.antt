-- A run over the lines behind `scenario 1` and behind `scenario 2`: it brings the same, where the run in version 1 isn't refused
-- for BadLine, `BadGroup 11` or TimeOrder, and no `train` step in it prints `BadGroup 11`. Histories have the newest line first.
use Rattle.scenario_laws.proofs.Known.Sources.{ℕ, suc, ◌≡◌, ◌⊎◌, ◌+◌, nat_eq, false, List, [], ◌∷◌, ◌++◌, length, reverse, Option, None, Some, refl, arith, sym, ◌∙◌, ap, ap₂, subst, inl, inr, false≢true, append-nil, none-some, same_Some, TextLine, Account, Horizon, Settings, Train, answer_of, outcome_by, Accepted, End, Rules, accepted_of, accepted_unless, end_unless, number_after, out, out_unless, refused, reverse_onto, airs_of, Step, refusal_line, Refusal, given_train, made_of, snapshot_in, handed_up, a_step, nothing, unsaid, output_said, refusal_said, rules_of, said_in, steps_of, with_said, is_misplaced, refusal_of, has_relay, is_over, is_unbegun_at, stage_after, stage_of, version_of, calls_made, source_at, EndsLasting, NonePrintsHorizon, PrintsHorizon, horizon_line, end_of, Said, said_after, said_of, SaidNever, line_passes, none_relayed, nothing_else, plain_after, says_no_relay, Legal, LinesInRange, legal, permitted, HearsNear, has_relay_same, is_later, over_same, second, seconds, answer_near as near_or_horizon}
use Rattle.delegator_history.specs.declared.train_heard.TrainHeard.TheVariants.{BadGroup as Refused}
use Rattle.scenario_laws.proofs.Versions.Lived.{AreCalm, IsCalm}
use Rattle.scenario_laws.proofs.Versions.Outputs.{handed_up_same, output_same}
use Rattle.scenario_laws.proofs.Versions.Horizons.{Announcing, announced_calm}
use Rattle.scenario_laws.proofs.Versions.Reading.{IsUnsaid, said_later}
use Rattle.scenario_laws.proofs.Versions.Refused.{Lasts, step_lasts}

-- the rules of a scenario with these boxes
abbrev pub Its : List Account → Rules TextLine Refusal
Its starts = rules_of airs_of starts

-- what holds of the lines of any text
pub record Laws : Type 0 where
  pub announcing : Announcing
  pub ranged : LinesInRange

-- ---- what a line says

same_lasts : (boxes : ℕ) (made : List Step) (said : Said) → has_relay made ≡ false → AreCalm made
    → Lasts (refusal_said airs_of boxes made said) (refusal_said airs_of boxes (seconds made) said)
same_lasts boxes made (a_step this) plain calm = search (seconds, none_relayed, has_relay_same, step_lasts)
same_lasts boxes made said plain calm = inl refl

said_same : (boxes : ℕ) (made : List Step) (said later : Said) → (later ≡ said) ⊎ IsUnsaid said
    → refusal_said airs_of boxes made said ≡ None → later ≡ said
said_same boxes made said later h4 none = grind (arith, none-some)

-- ---- trains that are given

-- what happens by lines without `relay` is what they say
pub as_said : (lines : List TextLine) → has_relay (said_of lines) ≡ false → steps_of airs_of lines ≡ said_of lines
as_said lines plain = nothing_else airs_of (said_of lines) plain

answers_so : (starts : List Account) (earlier : List TextLine) (line : TextLine) (sink time : ℕ) (ext adv acad : List ℕ) (made : Settings)
    → has_relay (said_of earlier) ≡ false
    → said_after earlier line ≡ a_step (Step.Train sink time ext adv acad) → made_of sink (said_of earlier) ≡ Some made
    → answer_of (outcome_by made.setup (snapshot_in made (calls_made sink (said_of earlier)))
    (given_train (source_at (said_of earlier)) time ext adv acad)) ≡ Refused Horizon → (Its starts).output earlier line ≡ horizon_line sink
answers_so starts earlier line sink time ext adv acad made plain says lives wider = grind (arith, as_said, append-nil)

given_calm : (starts : List Account) (earlier : List TextLine) (line : TextLine) (sink time : ℕ) (ext adv acad : List ℕ)
    → has_relay (said_of earlier) ≡ false → said_after earlier line ≡ a_step (Step.Train sink time ext adv acad) → (PrintsHorizon airs_of starts earlier line → ⊥)
    → IsCalm (said_of earlier) (Step.Train sink time ext adv acad)
given_calm starts earlier line sink time ext adv acad plain says never n made names lives =
    let before : List Step = said_of earlier in
    let train : Train = given_train (source_at before) time ext adv acad in
    let here : made_of sink before ≡ Some made → HearsNear made (calls_made sink before) (Some train) =
    λ is. elim (near_or_horizon (answer_of (outcome_by made.setup (snapshot_in made (calls_made sink before)) train))) [
      | inl near ↦ near
      | inr wider ↦ absurd (search answers_so)
    ] in
    subst (λ m. made_of m before ≡ Some made → HearsNear made (calls_made m before) (Some train)) (same_Some sink n names) here lives

step_calm : Laws → (starts : List Account) (earlier : List TextLine) (line : TextLine) (step : Step)
    → has_relay (said_of earlier) ≡ false → said_after earlier line ≡ a_step step
    → Accepted (Its starts) earlier → refusal_of airs_of (length starts) (said_of earlier) step ≡ None
    → (PrintsHorizon airs_of starts earlier line → ⊥) → IsCalm (said_of earlier) step
step_calm laws starts earlier line (Step.Announce sink) plain says accepted none never =
    announced_calm laws.announcing airs_of (length starts) sink (said_of earlier)
    (subst (Legal airs_of (length starts)) (as_said earlier plain) (legal laws.ranged airs_of starts earlier accepted)) none
step_calm laws starts earlier line (Step.Train sink time ext adv acad) plain says accepted none never =
    given_calm starts earlier line sink time ext adv acad plain says never
step_calm laws starts earlier line _ plain says accepted none never = λ n made names lives. tt

-- ---- the lines so far

-- a history in version 1, under way and not refused, and the same in version 2
pub record Stands (starts : List Account) (history later : List TextLine) : Type 0 where
  pub made : said_of later ≡ seconds (said_of history)
  pub count : length later ≡ length history
  pub begun : is_unbegun_at (stage_of (said_of history)) ≡ false
  pub first : nat_eq (version_of (said_of history)) 2 ≡ false
  pub plain : has_relay (said_of history) ≡ false
  pub calm : AreCalm (said_of history)
  pub accepted : Accepted (Its starts) history

-- what happens by both
happens : (starts : List Account) (history later : List TextLine) → Stands starts history later → steps_of airs_of history ≡ said_of history
happens starts history later stands = as_said history stands.plain

happens_later : (starts : List Account) (history later : List TextLine) → Stands starts history later
    → steps_of airs_of later ≡ seconds (said_of history)
happens_later starts history later stands = grind (arith, as_said, has_relay, has_relay_same)

line_later : (starts : List Account) (history later : List TextLine) (line : TextLine) → Stands starts history later
    → (said_after later line ≡ said_after history line) ⊎ IsUnsaid (said_after history line)
line_later starts history later line stands = grind (arith, said_in, version_of, said_later, seconds, is_later)

-- a line that isn't refused, of what is said before it
passes_said : (starts : List Account) (history later : List TextLine) (line : TextLine) → Stands starts history later
    → (Its starts).refusal history line ≡ None → refusal_said airs_of (length starts) (said_of history) (said_after history line) ≡ None
passes_said starts history later line stands none = cc (happens starts history later stands, none)

-- behind `scenario` no step that isn't refused is `scenario`
second_same : (made : List Step) (step : Step) → is_misplaced (stage_of made) step ≡ false → is_unbegun_at (stage_of made) ≡ false
    → second step ≡ step
second_same made this placed begun = grind (arith, false≢true)

begun_after : (made : List Step) (step : Step) → is_unbegun_at (stage_of made) ≡ false
    → is_unbegun_at (stage_after step (stage_of made)) ≡ false
begun_after made _ begun = grind arith

version_after : (made : List Step) (step : Step) → is_misplaced (stage_of made) step ≡ false → is_unbegun_at (stage_of made) ≡ false
    → version_of (step ∷ made) ≡ version_of made
version_after made this placed begun = grind (arith, false≢true)

-- what a line that isn't refused leaves to the lines behind it
record Goes (made later : List Step) (said : Said) : Type 0 where
  pub same : with_said said later ≡ seconds (with_said said made)
  pub begun : is_unbegun_at (stage_of (with_said said made)) ≡ false
  pub first : nat_eq (version_of (with_said said made)) 2 ≡ false
  pub plain : has_relay (with_said said made) ≡ false
  pub calm : AreCalm (with_said said made)

goes_on : Laws → (starts : List Account) (history later : List TextLine) (line : TextLine) (said : Said) → said_after history line ≡ said
    → Stands starts history later → refusal_said airs_of (length starts) (said_of history) said ≡ None
    → (PrintsHorizon airs_of starts history line → ⊥) → Goes (said_of history) (said_of later) said
goes_on laws starts history later line (a_step this) says stands none never =
    let passes = line_passes airs_of (length starts) (said_of history) this none in
    let permits = permitted airs_of (length starts) (said_of history) this passes in
    assumption (
      ap₂ (λ step (all : List Step). step ∷ all) (sym (second_same (said_of history) this permits.in_place stands.begun)) stands.made,
      begun_after (said_of history) this stands.begun,
      ap (λ version. nat_eq version 2) (version_after (said_of history) this permits.in_place stands.begun) ∙ stands.first,
      plain_after (said_of history) this (subst SaidNever says (says_no_relay (version_of (said_of history)) line stands.first)) stands.plain,
      step_calm laws starts history line this stands.plain says stands.accepted passes never,
    )
goes_on laws starts history later line nothing says stands none never = grind arith
goes_on laws starts history later line (unsaid reason) says stands none never = grind arith

stands_next : Laws → (starts : List Account) (history later : List TextLine) (line : TextLine) → Stands starts history later
    → (Its starts).refusal history line ≡ None
    → (PrintsHorizon airs_of starts history line → ⊥) → Stands starts (line ∷ history) (line ∷ later)
stands_next laws starts history later line stands none never =
    let passes = passes_said starts history later line stands none in
    let same : said_after later line ≡ said_after history line = grind (arith, said_same, length, line_later) in
    let goes : Goes (said_of history) (said_of later) (said_after history line) =
    goes_on laws starts history later line (said_after history line) refl stands passes never in
    assumption (ap (λ said. with_said said (said_of later)) same ∙ goes.same, ap (λ count. suc count) stands.count)

brought_same : (starts : List Account) (made : List Step) (said : Said) → has_relay made ≡ false → AreCalm made
    → AreCalm (with_said said made) → output_said airs_of starts (seconds made) said ≡ output_said airs_of starts made said
brought_same starts made said plain calm next = grind (arith, output_same)

line_same : Laws → (starts : List Account) (history later : List TextLine) (line : TextLine) → Stands starts history later
    → (Its starts).refusal history line ≡ None
    → (PrintsHorizon airs_of starts history line → ⊥) → (Its starts).output later line ≡ (Its starts).output history line
line_same laws starts history later line stands none never =
    cc (
      happens_later starts history later stands,
      said_same (length starts) (said_of history) (said_after history line) (said_after later line) (line_later starts history later line stands) (passes_said starts history later line stands none),
      brought_same starts (said_of history) (said_after history line) stands.plain stands.calm (stands_next laws starts history later line stands none never).calm,
      happens starts history later stands,
    )

-- ---- the lines behind them

-- one run brings what the other brings: its octets, its end, and the steps that it made hand up the same and end alike
pub record RunsAlike (octets octets' : List ℕ) (end end' : End Refusal) (all all' : List TextLine) : Type 0 where
  pub octets_same : octets' ≡ octets
  pub end_same : end' ≡ end
  pub units_same : handed_up airs_of (steps_of airs_of all') ≡ handed_up airs_of (steps_of airs_of all)
  pub over_same : is_over (said_of all') ≡ is_over (said_of all)

abbrev pub RunAlike : List Account → (history later lines others : List TextLine) → Type 0
RunAlike starts history later lines others =
    RunsAlike (out (Its starts) history lines) (out (Its starts) later others) (end_of (Its starts) history lines)
    (end_of (Its starts) later others) (accepted_of (Its starts) history lines) (accepted_of (Its starts) later others)

stands_alike : (starts : List Account) (history later : List TextLine) (octets octets' : List ℕ) (end end' : End Refusal)
    → Stands starts history later → octets' ≡ octets → end' ≡ end → RunsAlike octets octets' end end' history later
stands_alike starts history later octets octets' end end' stands same ends =
    grind (arith, handed_up, airs_of, happens_later, handed_up_same, happens, over_same, is_over)

alike_if : (starts : List Account) (history later : List TextLine) (reason reason' : Option Refusal) (octets octets' : List ℕ)
    (end end' : End Refusal)
    (all all' : List TextLine) → Stands starts history later → Lasts reason reason' → EndsLasting (end_unless history reason end)
    → (reason ≡ None → EndsLasting end → RunsAlike octets octets' end end' all all')
    → RunsAlike (out_unless (Its starts) history reason octets) (out_unless (Its starts) later reason' octets')
    (end_unless history reason end) (end_unless later reason' end') (accepted_unless history reason all)
    (accepted_unless later reason' all')
alike_if starts history later None reason' octets octets' end end' all all' stands (inl same) lasting goes = grind (arith, out_unless, end_unless, accepted_unless)
alike_if starts history later None reason' octets octets' end end' all all' stands (inr gone) lasting goes = absurd gone
alike_if starts history later (Some reason) reason' octets octets' end end' all all' stands (inl same) lasting goes =
    subst (λ r. RunsAlike (refusal_line (number_after history) reason) (out_unless (Its starts) later r octets')
    (refused (number_after history) reason) (end_unless later r end') history (accepted_unless later r all')) (sym same)
    (stands_alike starts history later (refusal_line (number_after history) reason) (refusal_line (number_after later) reason)
    (refused (number_after history) reason) (refused (number_after later) reason) stands
    (ap (λ count. refusal_line (count + 1) reason) stands.count) (ap (λ count. refused (count + 1) reason) stands.count))
alike_if starts history later (Some reason) reason' octets octets' end end' all all' stands (inr gone) lasting goes = absurd (gone lasting)

-- these lines, of which the first are a history
abbrev pub Begins : List TextLine → List TextLine → List TextLine → Type 0
Begins lines history rest = lines ≡ reverse history ++ rest

run_next : (starts : List Account) (history later rest : List TextLine) (line : TextLine)
    → (Its starts).output later line ≡ (Its starts).output history line → RunAlike starts (line ∷ history) (line ∷ later) rest rest
    → RunsAlike ((Its starts).output history line ++ out (Its starts) (line ∷ history) rest) ((Its starts).output later line
    ++ out (Its starts) (line ∷ later) rest) (end_of (Its starts) (line ∷ history) rest) (end_of (Its starts) (line ∷ later) rest)
    (accepted_of (Its starts) (line ∷ history) rest) (accepted_of (Its starts) (line ∷ later) rest)
run_next starts history later rest line same more = search (ap₂, over_same)

pub run_alike : Laws → (starts : List Account) (lines history later rest : List TextLine) → NonePrintsHorizon airs_of starts lines
    → Begins lines history rest
    → Stands starts history later → EndsLasting (end_of (Its starts) history rest) → RunAlike starts history later rest rest
run_alike laws starts lines history later (line ∷ rest) never begins stands lasting =
    alike_if starts history later ((Its starts).refusal history line) ((Its starts).refusal later line)
    ((Its starts).output history line ++ out (Its starts) (line ∷ history) rest) ((Its starts).output later line
    ++ out (Its starts) (line ∷ later) rest) (end_of (Its starts) (line ∷ history) rest) (end_of (Its starts) (line ∷ later) rest)
    (accepted_of (Its starts) (line ∷ history) rest) (accepted_of (Its starts) (line ∷ later) rest) stands
    (grind (arith, refusal_said, airs_of, length, seconds, happens, happens_later, same_lasts, line_later)) lasting (λ none on.
    let prints_not : PrintsHorizon airs_of starts history line → ⊥ = never history line rest begins (stands.accepted, none) in
    run_next starts history later rest line (line_same laws starts history later line stands none prints_not)
    (run_alike laws starts lines (line ∷ history) (line ∷ later) rest never (begins ∙ sym (reverse_onto line history rest))
    (stands_next laws starts history later line stands none prints_not) on))
run_alike laws starts lines history later [] never begins stands lasting = search (stands_alike)

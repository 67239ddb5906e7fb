-- What the lines say of which none was refused: a `relay` line is of a stream that had neither a relay nor a unit, and no `unit`
-- line of source 1 names a stream that has had a relay.
use Rattle.scenario_laws.proofs.Known.Sources.Steps.Prelude.{ℕ, ◌≡◌, ◌<◌, ◌⊎◌, ◌==◌, ◌∙◌, Bool, true, false, cond, List, [], ◌∷◌, length, None, Some, refl, sym, ap, subst, arith, inl, inr, slice_index_or, unwrap_or, Contains, option_or, eq-eqb, eqb-true, false≢true, or_right, none-some, same_Some, Step, Airs, last_given, happened, with_relayed_units, line_refusal, AreSaidLegally, Route, had_relay, relay_given, relay_of, relays_to, or_left, not, Option, is_some, list_any, and_cases, and_left, and_right, false_from_ne_true, or_parts, not-false, Refusal, fails_not, permitted, box_of, gives_on, is_relay_beyond, is_relayed, may_relay, refusal_of, relayed_or, steps_of_source, neither}
use Rattle.scenario_laws.proofs.RelayedUnits.Left.{left_by_relayed_units, gives_to}
use Rattle.scenario_laws.proofs.RelayedUnits.Routes.{had_happened, route_had}

-- ---- the step of a line

pub relayed_of : (reason : Refusal) → relayed_or true (Some reason) ≡ None → ⊥
relayed_of reason none = grind (arith, none-some)

pub passes_both : (test : Bool) (refusal : Option Refusal) → relayed_or test refusal ≡ None → refusal ≡ None
passes_both test refusal none = grind (arith, false≢true, none-some, relayed_of)

-- a line that isn't refused is a step that isn't
pub line_passes : (airs : Airs) (boxes : ℕ) (made : List Step) (step : Step) → line_refusal airs boxes made step ≡ None
    → refusal_of airs boxes made step ≡ None
line_passes airs boxes made step none = passes_both (is_relayed made step) (refusal_of airs boxes made step) none

-- ---- a `relay` line

-- the sources of a `relay` line allow it and have its streams, its sink lives and had no relay, and its stream of source 1 had neither
-- a relay nor a unit
pub record IsFree (made : List Step) (sink bis to : ℕ) : Type 0 where
  pub may : may_relay made ≡ true
  pub streams : is_relay_beyond made bis to ≡ false
  pub living : is_some (box_of sink made) ≡ true
  pub relay : is_some (relay_of sink made) ≡ false
  pub had : had_relay to made ≡ false
  pub given : list_any (gives_on to) (steps_of_source 1 made) ≡ false

pub is_free : (airs : Airs) (boxes : ℕ) (made : List Step) (sink bis to : ℕ) → refusal_of airs boxes made (Step.Relay sink bis to) ≡ None
    → IsFree made sink bis to
is_free airs boxes made sink bis to none = grind (arith, neither, not, or_parts, fails_not, not-false, permitted)

-- ---- a `unit` line

pub gives_none : (airs : Airs) (boxes bis : ℕ) (made : List Step) (step : Step) → line_refusal airs boxes made step ≡ None
    → had_relay bis made ≡ true → gives_to bis made step ≡ false
gives_none airs boxes bis made this none had =
    grind (arith, not, and_cases, had_relay, and_left, and_right, false_from_ne_true, false≢true, eqb-true, none-some, relayed_of)

-- ---- a stream of source 1 has one relay: no other relay to it stands

-- ---- the `relay` line

at_place : (first : Step) (rest : List Step) (one : Step) (k : ℕ) → k < length (first ∷ rest) → slice_index_or (first ∷ rest) k one ≡ one
    → (first ≡ one) ⊎ Contains rest one
at_place first rest one k below is = grind arith

pub contains_cases : (first : Step) (rest : List Step) (one : Step) → Contains (first ∷ rest) one → (first ≡ one) ⊎ Contains rest one
contains_cases first rest one within = at_place first rest one within.0 within.1 within.2

pub has_had : (n bis to : ℕ) (said : List Step) → Contains said (Step.Relay n bis to) → had_relay to said ≡ true
has_had n bis to [] within = absurd (omega (arith, within.1))
has_had n bis to (step ∷ earlier) within = elim (contains_cases step earlier (Step.Relay n bis to) within) [
  | inl is ↦ or_left (relays_to to step) (had_relay to earlier) (ap (relays_to to) is ∙ eq-eqb to to refl)
  | inr before ↦ or_right (relays_to to step) (had_relay to earlier) (has_had n bis to earlier before)
]

-- it stands where its stream had no relay
pub first_free : (airs : Airs) (boxes n bis to : ℕ) (step : Step) (made : List Step) → step ≡ Step.Relay n bis to
    → line_refusal airs boxes made step ≡ None → had_relay to made ≡ false
first_free airs boxes n bis to this made is none =
    cc ((is_free airs boxes made n bis to (line_passes airs boxes made (Step.Relay n bis to) (subst (λ s. line_refusal airs boxes made s ≡ None) is none))).had)

-- ---- the relays that stand

-- no relay to the stream stands but that of sink `n`, of stream `bis`
abbrev pub OneStands : ℕ → ℕ → ℕ → List Step → Type 0
OneStands n bis to made = (m : ℕ) → (route : Route) → relay_of m made ≡ Some route → route.to ≡ to → (m ≡ n) × (route.bis ≡ bis)

new_if : (hit : Bool) (n bis to m : ℕ) (made : List Step) (route : Route) → (hit ≡ true → n ≡ m) → had_relay to made ≡ false
    → unwrap_or (option_or (cond hit (Some (Some (record { bis = bis; to = to }))) None) (last_given (relay_given m) made)) None
    ≡ Some route → route.to ≡ to → (m ≡ n) × (route.bis ≡ bis)
new_if true n bis to m made route its none is goes = grind (arith, same_Some)
new_if false n bis to m made route its none is goes =
    absurd (false≢true (sym none ∙ ap (λ b. had_relay b made) (sym goes) ∙ route_had m made route is))

new_stands : (n bis to : ℕ) (made : List Step) → had_relay to made ≡ false → OneStands n bis to (Step.Relay n bis to ∷ made)
new_stands n bis to made none m route is goes = new_if (n == m) n bis to m made route (eqb-true n m) none is goes

other_if : (hit : Bool) (n bis to from into m : ℕ) (made : List Step) (route : Route) → OneStands n bis to made → had_relay to made ≡ true
    → had_relay into made ≡ false
    → unwrap_or (option_or (cond hit (Some (Some (record { bis = from; to = into }))) None) (last_given (relay_given m) made)) None
    ≡ Some route → route.to ≡ to → (m ≡ n) × (route.bis ≡ bis)
other_if true n bis to from into m made route stands had none is goes = grind (arith, same_Some, false≢true, had_relay)
other_if false n bis to from into m made route stands had none is goes = stands m route is goes

dropped_if : (hit : Bool) (n bis to m : ℕ) (made : List Step) (route : Route) → OneStands n bis to made
    → unwrap_or (option_or (cond hit (Some None) None) (last_given (relay_given m) made)) None ≡ Some route → route.to ≡ to
    → (m ≡ n) × (route.bis ≡ bis)
dropped_if true n bis to m made route stands is goes = absurd (none-some route is)
dropped_if false n bis to m made route stands is goes = stands m route is goes

-- a step more, where the relay was made before
stands_on : (airs : Airs) (boxes n bis to : ℕ) (step : Step) (made after_relays : List Step) → line_refusal airs boxes made step ≡ None
    → ((b : ℕ) → had_relay b after_relays ≡ had_relay b made) → OneStands n bis to after_relays → had_relay to made ≡ true
    → OneStands n bis to (step ∷ after_relays)
stands_on airs boxes n bis to (Step.Relay sink from into) made after_relays none same stands had m route is goes =
    other_if (sink == m) n bis to from into m after_relays route stands (same to ∙ had)
    (same into ∙ first_free airs boxes sink from into (Step.Relay sink from into) made refl none) is goes
stands_on airs boxes n bis to (Step.Drop sink) made after_relays none same stands had m route is goes =
    dropped_if (sink == m) n bis to m after_relays route stands is goes
stands_on airs boxes n bis to this made after_relays none same stands had m route is goes = stands m route is goes

pub one_stands : (airs : Airs) (boxes n bis to : ℕ) (said : List Step) → AreSaidLegally airs boxes said
    → Contains said (Step.Relay n bis to) → OneStands n bis to (happened airs said)
one_stands airs boxes n bis to [] legal within = absurd (omega (arith, within.1))
one_stands airs boxes n bis to (step ∷ earlier) legal within =
    let made = happened airs earlier in
    let left = left_by_relayed_units airs made step in
    elim (contains_cases step earlier (Step.Relay n bis to) within) [
      | inl is ↦
          subst (λ s. OneStands n bis to (s ∷ with_relayed_units airs made step)) (sym is)
          (new_stands n bis to (with_relayed_units airs made step) (left.had to ∙ first_free airs boxes n bis to step made is legal.1))
      | inr before ↦
          stands_on airs boxes n bis to step made (with_relayed_units airs made step) legal.1 left.had
          (λ m route is goes. one_stands airs boxes n bis to earlier legal.0 before m route (sym (left.relay m) ∙ is) goes)
          (had_happened airs to earlier ∙ has_had n bis to earlier before)
    ]

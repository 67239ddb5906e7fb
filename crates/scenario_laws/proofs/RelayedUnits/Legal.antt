-- Lines of which none was refused give steps of which none is: relayed units are steps that source 1 takes, and what closes an event of
-- source 0 is permitted behind them as before.
use Rattle.scenario_laws.proofs.Known.Sources.Steps.Prelude.{ℕ, ◌≡◌, ◌≤◌, ◌∙◌, not, cond, Bool, true, false, List, [], ◌∷◌, length, leb, ltb, Option, None, Some, refl, ap, arith, eqb-true, false≢true, ltb-false, none-some, IsInRange, Step, Airs, UnitFault, Refusal, fails_not, maps_none, permitted, is_misplaced, refusal_of, setup_of, chosen_of, chosen_steps, is_over, is_over_at, is_unbegun, is_unbegun_at, stage_of, steps_of_source, Offer, after_offer, after_offers, closes_first, dropped_for, happened, offers_at, with_relayed_unit_unless, with_relayed_units, AreLegal, AreSaidLegally, neither}
use Rattle.scenario_laws.proofs.RelayedUnits.Left.{left_by_offers}
use Rattle.scenario_laws.proofs.RelayedUnits.One.{line_passes}

-- ---- the scenario is under way

pub record Runs (made : List Step) : Type 0 where
  pub goes_on : is_over made ≡ false
  pub begun : is_unbegun made ≡ false

runs_by : (airs : Airs) (boxes : ℕ) (made : List Step) (step : Step) → is_misplaced (stage_of made) step ≡ is_unbegun made
    → refusal_of airs boxes made step ≡ None → Runs made
runs_by airs boxes made this same none = grind (arith, permitted)

pub runs_at : (airs : Airs) (boxes : ℕ) (made : List Step) (step : Step) → refusal_of airs boxes made step ≡ None
    → closes_first made step ≡ true → Runs made
runs_at airs boxes made this none closes = grind (arith, runs_by, false≢true)

pub runs_still : (made others : List Step) → stage_of others ≡ stage_of made → Runs made → Runs others
runs_still made others same runs = record { goes_on = ap is_over_at same ∙ runs.goes_on; begun = ap is_unbegun_at same ∙ runs.begun }

-- ---- a relayed unit

abbrev most_of : List Step → ℕ
most_of own = (setup_of own).info.max_sdu

bounded_if : (mine : Bool) (step : Step) (own : List Step) → IsInRange step → most_of own ≤ 4095
    → most_of (cond mine (step ∷ own) own) ≤ 4095
bounded_if mine this own ranged before = grind arith

-- a unit of source 1 has at most 4,095 octets
bounded : (airs : Airs) (boxes : ℕ) (made : List Step) → AreLegal airs boxes made → most_of (steps_of_source 1 made) ≤ 4095
bounded airs boxes [] legal = omega arith
bounded airs boxes (this ∷ earlier) legal = search (bounded_if, bounded airs boxes earlier legal.0)

chosen_below : (airs : Airs) (boxes : ℕ) (made : List Step) → AreLegal airs boxes made → chosen_of made ≤ 1
chosen_below airs boxes [] legal = omega arith
chosen_below airs boxes (Step.Source source ∷ earlier) legal = legal.2
chosen_below airs boxes (this ∷ earlier) legal = chosen_below airs boxes earlier legal.0

pub second_false : (a b : Bool) (x y : UnitFault) (z : Option UnitFault) → cond a (Some x) (cond b (Some y) z) ≡ None → b ≡ false
second_false a b x y z none = grind (arith, none-some)

-- what passes has at most so many octets as a unit of a line
short : (airs : Airs) (boxes : ℕ) (offer : Offer) (made : List Step) → AreLegal airs boxes made → dropped_for airs offer made ≡ None
    → length offer.unit.octets ≤ 4095
short airs boxes offer made legal none = grind (arith, neither, not, length, ltb-false, second_false, ltb, cond, leb, maps_none, bounded)

-- ---- relayed units

pub unless_legal : (airs : Airs) (boxes : ℕ) (reason : Option Refusal) (offer : Offer) (made : List Step) → AreLegal airs boxes made
    → Runs made → dropped_for airs offer made ≡ reason → AreLegal airs boxes (with_relayed_unit_unless reason offer made)
unless_legal airs boxes reason offer made legal runs is = grind (arith, short, chosen_of, chosen_below, neither, not, fails_not)

all_legal : (airs : Airs) (boxes : ℕ) (offers : List Offer) (made : List Step) → AreLegal airs boxes made → Runs made
    → AreLegal airs boxes (after_offers airs offers made)
all_legal airs boxes [] made legal runs = legal
all_legal airs boxes (offer ∷ offers) made legal runs =
    let next = after_offer airs offer made in
    all_legal airs boxes offers next (unless_legal airs boxes (dropped_for airs offer made) offer made legal runs refl)
    (runs_still made next (left_by_offers airs (offer ∷ []) made).stage runs)

legal_if : (closes : Bool) (airs : Airs) (boxes : ℕ) (made : List Step) → AreLegal airs boxes made → (closes ≡ true → Runs made)
    → AreLegal airs boxes (after_offers airs (cond closes (offers_at airs made) []) made)
legal_if closes airs boxes made legal runs = grind (arith, all_legal)

-- ---- the step behind them

chosen_alike : (made others : List Step) → chosen_of others ≡ chosen_of made → steps_of_source 0 others ≡ steps_of_source 0 made
    → chosen_of made ≡ 0 → chosen_steps others ≡ chosen_steps made
chosen_alike made others chosen first is = cc (chosen, is, first, is)

step_legal : (airs : Airs) (boxes : ℕ) (made : List Step) (step : Step) → refusal_of airs boxes made step ≡ None
    → refusal_of airs boxes (with_relayed_units airs made step) step ≡ None
step_legal airs boxes made this none = grind (arith, eqb-true, left_by_offers, chosen_alike)

pub happens_legally : (airs : Airs) (boxes : ℕ) (said : List Step) → AreSaidLegally airs boxes said
    → AreLegal airs boxes (happened airs said)
happens_legally airs boxes [] legal = tt
happens_legally airs boxes (step ∷ earlier) legal =
    let made = happened airs earlier in
    let before = happens_legally airs boxes earlier legal.0 in
    let none = line_passes airs boxes made step legal.1 in (
      legal_if (closes_first made step) airs boxes made before (runs_at airs boxes made step none),
      step_legal airs boxes made step none,
      legal.2,
    )

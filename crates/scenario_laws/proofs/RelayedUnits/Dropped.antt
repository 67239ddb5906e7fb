-- A unit that a relay offers is dropped for one of four reasons: the stream that it goes to is one of source 1, which is framed and
-- takes times ahead.
use Rattle.scenario_laws.proofs.Known.Sources.Steps.{ℕ, ◌≡◌, ◌==◌, ◌&&◌, ◌∙◌, not, cond, Bool, true, false, List, [], ◌∷◌, ltb, arith, None, Some, refl, ap, subst, inl, inr, slice_index_or, All, option_map, option_or, and_parts, eqb-true, false≢true, or_parts, All-head, All-tail, Step, Airs, permitted, stage_same, is_out_of_phase, refusal_of, source_refusal, refuse_if, Phase, is_ciphered, is_sending, is_sending_at, is_started, phase_of, sending, setup_of, takes_units, was_started_at, chosen_of, is_of_source, is_source_line, steps_of_source, version_at, version_of, DroppedLaw, Offer, after_offer, closes_first, dropped_for, happened, offers_at, AreLegal, had_relay, relay_of, or_cases, stage_happened, left_by_offers, Runs, happens_legally, runs_at, runs_still, unless_legal, is_free, line_passes, Stands, offers_stand, route_had, Refusal}
use Rattle.relay_role.specs.Relayed.{drop_name}
use Rattle.scenario_laws.specs.RelayedUnits.Dropped.{AreDroppedByName, refusal_named, second_at, second_of}
use Rattle.source_machine.specs.UnitFaults as give_faults
use Rattle.relay_role.specs.declared.dropped.DropName.TheVariants as drops

-- ---- source 1 once it has a relay

pub record Settled (own : List Step) (to : ℕ) : Type 0 where
  pub started : is_started own ≡ true
  pub framed : ((setup_of own).info.framing == 1) ≡ true
  pub within : ltb (setup_of own).info.num_bis to ≡ false

sending_started : (phase : Phase) → is_sending_at phase ≡ true → was_started_at phase ≡ true
sending_started sending is = refl
sending_started phase is = search

by_line : (airs : Airs) (boxes : ℕ) (earlier : List Step) (step : Step) → refusal_of airs boxes earlier step ≡ None
    → (is_source_line step && (chosen_of earlier == 1)) ≡ true → is_out_of_phase (steps_of_source 1 earlier) step ≡ false
by_line airs boxes earlier step none mine =
    let parts = and_parts (is_source_line step) (chosen_of earlier == 1) mine in
    subst (λ c. is_out_of_phase (steps_of_source c earlier) step ≡ false) (eqb-true (chosen_of earlier) 1 parts.1)
    (permitted airs boxes earlier step none).in_phase

in_phase : (airs : Airs) (boxes : ℕ) (earlier : List Step) (step : Step) → refusal_of airs boxes earlier step ≡ None
    → is_of_source 1 earlier step ≡ true → is_out_of_phase (steps_of_source 1 earlier) step ≡ false
in_phase airs boxes earlier this none mine = grind (arith, false≢true, by_line)

settled_now : (airs : Airs) (boxes : ℕ) (earlier : List Step) (sink bis to : ℕ)
    → refusal_of airs boxes earlier (Step.Relay sink bis to) ≡ None → Settled (steps_of_source 1 earlier) to
settled_now airs boxes earlier sink bis to none =
    let own = steps_of_source 1 earlier in
    let free = is_free airs boxes earlier sink bis to none in
    let may = and_parts (takes_units (steps_of_source 0 earlier)) (takes_units own && ((setup_of own).info.framing == 1)) free.may in
    let second = and_parts (takes_units own) ((setup_of own).info.framing == 1) may.1 in
    let sends = and_parts (is_sending own) (not (is_ciphered own)) second.0 in
    assumption (
      sending_started (phase_of own) sends.0,
      (or_parts (ltb (setup_of (steps_of_source 0 earlier)).info.num_bis bis) (ltb (setup_of own).info.num_bis to) free.streams).1,
    )

-- the stream of a relay is one of source 1 from its `relay` line on
pub settled : (airs : Airs) (boxes to : ℕ) (made : List Step) → AreLegal airs boxes made → had_relay to made ≡ true
    → Settled (steps_of_source 1 made) to
settled airs boxes to [] legal had = absurd (false≢true had)
settled airs boxes to (Step.Relay sink bis into ∷ earlier) legal had = elim (or_cases (into == to) (had_relay to earlier) had) [
  | inl its ↦ subst (Settled (steps_of_source 1 earlier)) (eqb-true into to its) (settled_now airs boxes earlier sink bis into legal.1)
  | inr before ↦ settled airs boxes to earlier legal.0 before
]
settled airs boxes to (step ∷ earlier) legal had =
    grind (arith, or_parts, false≢true, (in_phase airs boxes earlier step legal.1), (settled airs boxes to earlier legal.0 had))

-- ---- the reasons

by_takes : (takes : Bool) (airs : Airs) (version : ℕ) (own : List Step) (offer : Offer) → Settled own offer.route.to → version_of own ≡ 2
    → option_or (refuse_if (not takes) Refusal.Order)
    (source_refusal airs version own (Step.Unit offer.route.to (Some offer.unit.time) offer.unit.octets))
    ≡ option_map refusal_named (drop_name airs offer.route.to offer.unit (second_at takes own))
by_takes takes airs version own offer set second = grind (arith, ltb, eqb-true)

one_named : (airs : Airs) (boxes : ℕ) (offer : Offer) (made : List Step) → AreLegal airs boxes made → version_of made ≡ 2
    → relay_of offer.sink made ≡ Some offer.route
    → dropped_for airs offer made ≡ option_map refusal_named (drop_name airs offer.route.to offer.unit (second_of made))
one_named airs boxes offer made legal second is = search (by_takes, settled, route_had, stage_same)

offers_named : (airs : Airs) (boxes : ℕ) (offers : List Offer) (made : List Step) → AreLegal airs boxes made → Runs made
    → version_of made ≡ 2 → All (Stands made) offers → AreDroppedByName airs offers made
offers_named airs boxes [] made legal runs second stand = tt
offers_named airs boxes (offer ∷ offers) made legal runs second stand =
    let next = after_offer airs offer made in
    let left = left_by_offers airs (offer ∷ []) made in
    let others = All-tail (Stands made) offer offers stand in (
      one_named airs boxes offer made legal second (All-head (Stands made) offer offers stand),
      offers_named airs boxes offers next (unless_legal airs boxes (dropped_for airs offer made) offer made legal runs refl)
          (runs_still made next left.stage runs) (ap version_at left.stage ∙ second)
          (λ k d within. left.relay (slice_index_or offers k d).sink ∙ others k d within),
    )

named_if : (closes : Bool) (airs : Airs) (boxes : ℕ) (made : List Step) → AreLegal airs boxes made → version_of made ≡ 2
    → (closes ≡ true → Runs made) → AreDroppedByName airs (cond closes (offers_at airs made) []) made
named_if closes airs boxes made legal second runs = grind (arith, offers_named, offers_stand)

pub dropped_law_holds : (boxes : ℕ) → DroppedLaw boxes
dropped_law_holds boxes airs said this legal second =
    grind (arith, happened, named_if, closes_first, happens_legally, version_at, stage_happened, runs_at, line_passes)

-- What happens by the steps of a scenario with relays: before a step that closes an event of source 0, source 1 is given each unit
-- that a relay offers and that it takes, as by `source 1`, a `unit` line and `source` back. The units are SDUs of Core 5.2, volume 6
-- part G, section 1; relays are this project's own. Lists of steps have the newest first, all other lists the oldest.
use Rattle.std.specs.Prelude.{ℕ, ◌==◌, ◌&&◌, not, Bool, true, false, List, [], ◌∷◌, ◌++◌, map, Option, None, Some, is_none, if◌then◌else◌}
use Rattle.std.specs.List.{filter, flat_map}
use Rattle.std.specs.Option.{option_or}
use Rattle.bcast_base.specs.declared.unit.Unit.{Unit as AudioUnit}
use Rattle.unit_outlets.specs.Handed.{Handed, valid, lost}
use Rattle.transcript_text.specs.declared.refusal.Refusal.{Refusal}
use Rattle.transcript_text.specs.declared.refusal.Refusal.TheVariants.{Order}
use Rattle.scenario_text.specs.declared.step.Step.{Step}
use Rattle.scenario_text.specs.declared.step.Step.TheVariants.{Unit as UnitLine, Event, Source, Stop, Terminate, End}
use Rattle.scenario_history.specs.Steps.{chosen_of, steps_of_source, version_of}
use Rattle.scenario_history.specs.Source.{takes_units}
use Rattle.source_machine.specs.Airs.{Airs}
use Rattle.scenario_history.specs.Boxes.{SinkUnit, closing, sink_numbers}
use Rattle.scenario_history.specs.Refusals.{source_refusal}
use Rattle.sink_history.specs.Refusals.{refuse_if}
use Rattle.scenario_history.specs.Relays.{Route, relay_of}

-- ---- what is offered

-- a unit that the relay of a sink offers: its octets, and the time that is printed of it as its unit time
pub record Offer : Type 0 where
  pub sink : ℕ
  pub route : Route
  pub unit : AudioUnit

abbrev pub valid_on : ℕ → Handed → List AudioUnit
valid_on bis (valid stream time octets) = if stream == bis then record { time = time; octets = octets } ∷ [] else []
valid_on bis (lost stream time) = []

abbrev pub units_on : ℕ → List Handed → List AudioUnit
units_on bis units = flat_map (valid_on bis) units

-- what a sink with a relay or none offers of the units that it hands up: the valid ones of the relay's stream
abbrev pub offered_of : ℕ → Option Route → List Handed → List Offer
offered_of n None units = []
offered_of n (Some route) units = map (λ unit. record { sink = n; route = route; unit = unit }) (units_on route.bis units)

abbrev pub handed_of : ℕ → ℕ → List SinkUnit → List Handed
handed_of s n units = map (λ unit. unit.unit) (filter (λ unit. (unit.source == s) && (unit.sink == n)) units)

-- what is offered as the open event of source 0 is closed, by rising sink and then in order
abbrev pub offers_at : Airs → List Step → List Offer
offers_at airs steps = flat_map (λ n. offered_of n (relay_of n steps) (handed_of 0 n (closing airs 0 steps))) sink_numbers

-- the step after these closes the open event of source 0
abbrev pub closes_first : List Step → Step → Bool
closes_first steps Event = chosen_of steps == 0
closes_first steps Stop = chosen_of steps == 0
closes_first steps (Terminate reason) = chosen_of steps == 0
closes_first steps End = true
closes_first steps _ = false

abbrev pub offers_before : Airs → List Step → Step → List Offer
offers_before airs steps step = if closes_first steps step then offers_at airs steps else []

-- ---- what source 1 takes of it

-- why source 1 doesn't take a unit that is offered after these steps: it has stopped, or a `unit` line would be refused
abbrev pub dropped_for : Airs → Offer → List Step → Option Refusal
dropped_for airs offer steps = option_or (refuse_if (not (takes_units (steps_of_source 1 steps))) Order)
    (source_refusal airs (version_of steps) (steps_of_source 1 steps) (UnitLine offer.route.to (Some offer.unit.time) offer.unit.octets))

-- the unit is given to source 1, and the source that was chosen is chosen again
abbrev pub with_relayed_unit : Offer → List Step → List Step
with_relayed_unit offer steps =
    Source (chosen_of steps) ∷ UnitLine offer.route.to (Some offer.unit.time) offer.unit.octets ∷ Source 1 ∷ steps

abbrev pub with_relayed_unit_unless : Option Refusal → Offer → List Step → List Step
with_relayed_unit_unless None offer steps = with_relayed_unit offer steps
with_relayed_unit_unless (Some reason) offer steps = steps

abbrev pub after_offer : Airs → Offer → List Step → List Step
after_offer airs offer steps = with_relayed_unit_unless (dropped_for airs offer steps) offer steps

abbrev pub after_offers : Airs → List Offer → List Step → List Step
after_offers airs [] steps = steps
after_offers airs (offer ∷ offers) steps = after_offers airs offers (after_offer airs offer steps)

pub record Answered : Type 0 where
  pub offer : Offer
  pub reason : Option Refusal

abbrev pub answered : Airs → List Offer → List Step → List Answered
answered airs [] steps = []
answered airs (offer ∷ offers) steps =
    record { offer = offer; reason = dropped_for airs offer steps } ∷ answered airs offers (after_offer airs offer steps)

-- ---- what happens

abbrev pub with_relayed_units : Airs → List Step → Step → List Step
with_relayed_units airs steps step = after_offers airs (offers_before airs steps step) steps

-- what happens by these steps of lines: they themselves, and before each its relayed units
abbrev pub happened : Airs → List Step → List Step
happened airs [] = []
happened airs (step ∷ earlier) = step ∷ with_relayed_units airs (happened airs earlier) step

abbrev pub answered_by : Airs → List Step → Step → List Answered
answered_by airs steps step = answered airs (offers_before airs steps step) steps

abbrev pub all_answered : Airs → List Step → List Answered
all_answered airs [] = []
all_answered airs (step ∷ earlier) = all_answered airs earlier ++ answered_by airs (happened airs earlier) step

abbrev pub offered_to : ℕ → List Answered → List Answered
offered_to bis units = filter (λ answer. answer.offer.route.to == bis) units

abbrev pub passed : List Answered → List AudioUnit
passed units = map (λ answer. answer.offer.unit) (filter (λ answer. is_none answer.reason) units)

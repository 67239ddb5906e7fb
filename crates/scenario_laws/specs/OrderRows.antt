-- What the records of the order of units refuse, by hand: one of two equal units shown twice, and a framed unit in a later event than
-- the one that it begins in (Core 5.2, volume 6 part G, sections 2.2 and 3.2). Lists of units have the oldest first.
use Rattle.std.specs.Prelude.{ℕ, ◌≡◌, true, false, List, [], ◌∷◌, ◌++◌, reverse, None}
use Rattle.bcast_base.specs.declared.unit.Unit.{Unit as AudioUnit}
use Rattle.isoal_base.specs.Air.{Air}
use Rattle.scenario_history.specs.Source.{source_calls}
use Rattle.scenario_history.specs.Steps.{steps_of_source}
use Rattle.scenario_text.specs.declared.step.Step.{Step}
use Rattle.scenario_text.specs.declared.step.Step.TheVariants as steps
use Rattle.source_machine.specs.Airs.{airs_of}
use Rattle.source_machine.specs.Calls.{Call, Setup}
use Rattle.unit_outlets.specs.Handed.{Handed, valid}
use Rattle.scenario_laws.specs.Laws.{air_in}
use Rattle.scenario_laws.specs.MomentRows.{a_framed_pair}
use Rattle.scenario_laws.specs.Moments.{setup_in}
use Rattle.scenario_laws.specs.Relayed.{InFirstOrder, injected_till_last_offer}
use Rattle.scenario_laws.specs.SourceUnits.{IsOfUnit}

-- the source of the framed pair, its calls, and the air of its stream 2
abbrev pub its_setup : Setup
its_setup = setup_in 0 a_framed_pair

abbrev pub its_calls : List Call
its_calls = source_calls (steps_of_source 0 a_framed_pair)

abbrev pub its_air : Air
its_air = air_in airs_of (steps_of_source 0 a_framed_pair) 2

-- ---- a relay

-- two units of source 0 with the same octets
abbrev pub equal_units : List (List ℕ)
equal_units = (0xa0 ∷ []) ∷ (0xa0 ∷ []) ∷ []

-- the relaying sink handed them up, one behind the other
abbrev pub handed_both : List AudioUnit
handed_both = record { time = 61460; octets = 0xa0 ∷ [] } ∷ record { time = 71460; octets = 0xa0 ∷ [] } ∷ []

-- the steps of a sink that is made, dropped and made again with a relay, is dropped and made a third time, the newest first: something
-- is injected into the first and into the third, and maybe something comes to the second before its relay hands on
abbrev pub three_lives : List Step → List Step
three_lives coming = reverse (
    steps.Scenario 2 ∷ steps.Sink 0 2 1 None ∷ steps.Inject 0 0 1 0 [] ∷ steps.Drop 0 ∷ steps.Sink 0 2 1 None ∷ coming
    ++ steps.Relay 0 1 2 ∷ steps.Event ∷ steps.Event ∷ steps.Drop 0 ∷ steps.Sink 0 2 1 None ∷ steps.Inject 0 0 1 0 [] ∷ steps.Event ∷ [])

-- each is shown 61,084 µs later than it was handed up, in order and once: the first alone isn't shown twice, nor the first behind the
-- second; and of what is injected only that counts which comes to the sink of the relay
pub record IsRelayWorked : Type 0 where
  pub both : InFirstOrder equal_units handed_both its_setup 2 (valid 2 122544 (0xa0 ∷ []) ∷ valid 2 132544 (0xa0 ∷ []) ∷ [])
  pub one_twice : InFirstOrder equal_units handed_both its_setup 2 (valid 2 122544 (0xa0 ∷ []) ∷ valid 2 122544 (0xa0 ∷ []) ∷ []) → ⊥
  pub turned : InFirstOrder equal_units handed_both its_setup 2 (valid 2 132544 (0xa0 ∷ []) ∷ valid 2 122544 (0xa0 ∷ []) ∷ []) → ⊥
  pub others_injected : injected_till_last_offer 0 1 2 (three_lives []) ≡ false
  pub injected : injected_till_last_offer 0 1 2 (three_lives (steps.Inject 0 0 1 0 [] ∷ [])) ≡ true

-- ---- a framed unit

-- the unit of stream 2 crosses events 0 and 1: each entry of it is by event 0, in which it begins
abbrev pub IsBeginWorked : Type 0
IsBeginWorked = (entry : Handed) → (is : IsOfUnit its_setup its_calls 2 its_air 0 entry) → is.event ≡ 0

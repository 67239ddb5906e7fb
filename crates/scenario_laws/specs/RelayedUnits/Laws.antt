-- What holds of the relays of a scenario: what their units leave alone, and that what source 1 takes is what was offered without
-- what was dropped. Relays are this project's own; the units are SDUs of Core 5.2, volume 6 part G, section 1. Lists of steps have
-- the newest first, lists of units the oldest.
use Rattle.std.specs.Prelude.{ℕ, ◌≡◌, ◌==◌, ◌&&◌, Bool, false, List, [], ◌∷◌, ◌++◌, map, Option, None, Some, if◌then◌else◌}
use Rattle.std.specs.List.{Contains}
use Rattle.bcast_base.specs.declared.unit.Unit.{Unit as AudioUnit}
use Rattle.isoal_framed.specs.Calls.{accepted}
use Rattle.source_machine.specs.Calls.{framed_calls}
use Rattle.scenario_text.specs.declared.step.Step.{Step}
use Rattle.scenario_text.specs.declared.step.Step.TheVariants.{Relay}
use Rattle.sink_history.specs.History.{made_of}
use Rattle.scenario_history.specs.Steps.{chosen_of, sinks_made, stage_of, steps_of_source, version_of}
use Rattle.scenario_history.specs.Source.{open_event, setup_of, source_calls}
use Rattle.source_machine.specs.Airs.{Airs}
use Rattle.scenario_history.specs.Sinks.{sink_calls, source_of}
use Rattle.scenario_history.specs.Boxes.{box_of, closing, handed_by, handed_up}
use Rattle.scenario_history.specs.Output.{first_lines, unit_lines}
use Rattle.scenario_history.specs.Refusals.{line_refusal, refusal_of}
use Rattle.scenario_history.specs.Worlds.{calls_made}
use Rattle.scenario_laws.specs.RelayedUnits.Dropped.{AreDroppedByName}
use Rattle.scenario_history.specs.RelayedUnits.{all_answered, answered_by, handed_of, happened, offered_to, offers_before, passed}
use Rattle.scenario_history.specs.RelayedUnits.{units_on, with_relayed_units}
use Rattle.scenario_laws.specs.RelayedUnits.Legal.{AreLegal, AreSaidLegally}
use Rattle.scenario_history.specs.Relays.{Route, had_relay, has_relay, relay_of}

-- ---- what relayed units leave

-- all that relayed units say nothing of is with them as it was before: the scenario, the chosen source and source 0; each sink, with its
-- history, its receivers, its source, its box and its relay; the open event of source 1; and what was handed up, and is handed up as
-- an event of either source is closed
pub record IsLeft (airs : Airs) (after_relays before : List Step) : Type 0 where
  pub stage : stage_of after_relays ≡ stage_of before
  pub chosen : chosen_of after_relays ≡ chosen_of before
  pub first : steps_of_source 0 after_relays ≡ steps_of_source 0 before
  pub sinks : sinks_made after_relays ≡ sinks_made before
  pub made : (n : ℕ) → made_of n after_relays ≡ made_of n before
  pub lives : (n : ℕ) → calls_made n after_relays ≡ calls_made n before
  pub calls : (n : ℕ) → sink_calls airs n after_relays ≡ sink_calls airs n before
  pub source : (n : ℕ) → source_of n after_relays ≡ source_of n before
  pub box : (n : ℕ) → box_of n after_relays ≡ box_of n before
  pub relay : (n : ℕ) → relay_of n after_relays ≡ relay_of n before
  pub had : (bis : ℕ) → had_relay bis after_relays ≡ had_relay bis before
  pub open_second : open_event (steps_of_source 1 after_relays) ≡ open_event (steps_of_source 1 before)
  pub closing_first : closing airs 0 after_relays ≡ closing airs 0 before
  pub closing_second : closing airs 1 after_relays ≡ closing airs 1 before
  pub handed : handed_up airs after_relays ≡ handed_up airs before

-- ---- what happens is permitted

-- lines of which none is refused give steps of which none is, with the relayed units among them
abbrev pub HappensLegally : ℕ → Type 0
HappensLegally boxes = (airs : Airs) → (said : List Step) → AreSaidLegally airs boxes said → AreLegal airs boxes (happened airs said)

-- without a `relay` line nothing else happens than what the lines say
abbrev pub NothingElse : Type 0
NothingElse = (airs : Airs) → (said : List Step) → has_relay said ≡ false → happened airs said ≡ said

-- without a `relay` line the units of source 0 are printed by rising sink, and nothing stands between those of two sinks
abbrev pub PrintsUnits : Type 0
PrintsUnits = (airs : Airs) → (steps : List Step) → (step : Step) → has_relay steps ≡ false
    → first_lines (closing airs 0 steps) (answered_by airs steps step) ≡ unit_lines (closing airs 0 steps)

-- and no line is Relayed
abbrev pub NoneRelayed : ℕ → Type 0
NoneRelayed boxes = (airs : Airs) → (steps : List Step) → (step : Step) → has_relay steps ≡ false
    → line_refusal airs boxes steps step ≡ refusal_of airs boxes steps step

-- ---- what is dropped

-- The units that are offered before a step whose line isn't refused, after lines of version 2 of which none was, are dropped exactly
-- for the reasons of relays.
abbrev pub DroppedLaw : ℕ → Type 0
DroppedLaw boxes = (airs : Airs) → (said : List Step) → (step : Step) → AreSaidLegally airs boxes (step ∷ said) → version_of said ≡ 2
    → AreDroppedByName airs (offers_before airs (happened airs said) step) (happened airs said)

-- ---- the relay law

-- the units that source 1 accepted on a stream, each with its time, in order
abbrev pub accepted_on : ℕ → List Step → List AudioUnit
accepted_on bis steps = accepted (framed_calls (setup_of (steps_of_source 1 steps)) bis (source_calls (steps_of_source 1 steps)))

-- What source 1 accepts on a stream by the relayed units before a step is what was offered to it before that step, without the units that
-- were dropped, in order and with octets and times.
abbrev pub PassesAtOnce : Type 0
PassesAtOnce = (airs : Airs) → (steps : List Step) → (step : Step) → (to : ℕ)
    → accepted_on to (with_relayed_units airs steps step) ≡ accepted_on to steps ++ passed (offered_to to (answered_by airs steps step))

abbrev pub is_route : (bis to : ℕ) → Option Route → Bool
is_route bis to None = false
is_route bis to (Some route) = (route.bis == bis) && (route.to == to)

-- what sink `n` hands up of source 0 and of stream `bis`, valid, by the step after these, with the relayed units before it
abbrev pub handed_on : Airs → (n bis : ℕ) → List Step → Step → List AudioUnit
handed_on airs n bis steps step = units_on bis (handed_of 0 n (handed_by airs (with_relayed_units airs steps step) step))

-- Offered, with printed times: the valid units of stream `bis` that sink `n` handed up at closes of source 0 while its relay went to `to`
abbrev pub offered : Airs → (n bis to : ℕ) → List Step → List AudioUnit
offered airs n bis to [] = []
offered airs n bis to (step ∷ earlier) = offered airs n bis to earlier
    ++ (if is_route bis to (relay_of n (happened airs earlier)) then handed_on airs n bis (happened airs earlier) step else [])

-- What source 1 accepted on stream `to` is, in order and with octets and times, what was offered to it without the units that were
-- dropped; and what was offered to it is what sink `n` handed up of stream `bis`.
pub record IsRelayed (airs : Airs) (said : List Step) (n bis to : ℕ) : Type 0 where
  pub offered_is : map (λ answer. answer.offer.unit) (offered_to to (all_answered airs said)) ≡ offered airs n bis to said
  pub passed_is : accepted_on to (happened airs said) ≡ passed (offered_to to (all_answered airs said))

-- The relay law: where no line of these steps was refused and one of them is `relay N B B2`, what source 1 accepted on B2 is what
-- sink N handed up of B after this step and before its `drop`, without exactly the units that were dropped. It holds after each step.
abbrev pub RelayLaw : ℕ → Type 0
RelayLaw boxes = (airs : Airs) → (said : List Step) → AreSaidLegally airs boxes said
    → (n : ℕ) → (bis : ℕ) → (to : ℕ) → Contains said (Relay n bis to) → IsRelayed airs said n bis to

-- What relays do as an event of source 0 is closed. Relays are this project's own; the units are SDUs of Core 5.2, volume 6 part G,
-- section 1. Lists of steps have the newest first.
use Rattle.std.specs.Prelude.{ℕ, zero, suc, ◌≡◌, ◌<◌, List, ◌++◌, Option, None, Some, Result, Ok, Err}
use Rattle.std.specs.List.{flat_map, range_with_len}
use Rattle.unit_outlets.specs.Account.{Account}
use Rattle.source_machine.specs.Airs.{airs_of}
use Rattle.transcript_text.specs.Lines.{dropped_line}
use Rattle.transcript_text.specs.declared.refusal.Refusal.{Refusal}
use Rattle.transcript_text.specs.declared.stop.Stop.{Stop}
use Rattle.transcript_text.specs.declared.stop.Stop.TheVariants.{Refused, OutletFault, Memory}
use Rattle.scenario_text.specs.declared.step.Step.{Step}
use Rattle.scenario_history.specs.Boxes.{SinkUnit, accounts_after, sink_numbers}
use Rattle.scenario_history.specs.RelayedUnits.{Answered, Offer, after_offers, answered, dropped_for, offered_of, with_relayed_unit}
use Rattle.scenario_history.specs.Output.{answer_line, unit_lines}
use Rattle.scenario_history.specs.Relays.{relay_of}
use Rattle.scenario_sinks.specs.declared.relays.Relays.{Relays}
use Rattle.scenario_sinks.specs.State.RelaysStand.{RelaysStand}
use Rattle.scenario_sinks.specs.Closing.{closing_of, closings, handed_all}
use Rattle.scenario_sinks.specs.Handing.{BoxFails, CutShort, Hands}
use Rattle.scenario_sinks.specs.Histories.{Histories, with_close, with_close_at}
use Rattle.scenario_sinks.specs.State.Standing.{SinksStand}
use Rattle.scenario_sources.specs.declared.sources.Sources.{Sources}
use Rattle.scenario_sources.specs.State.Standing.{SourcesStand}
use Rattle.replay_steps.specs.declared.machine.Machine.{Machine}
use Rattle.replay_steps.specs.Machines.{relay_histories}

-- ---- one relay

-- the lines of those of these units that source 1 didn't take
abbrev pub answer_lines : List Answered → List ℕ
answer_lines answers = flat_map (λ (answer : Answered). answer_line answer.offer answer.reason) answers

-- source 1 was given a unit that is offered after these steps, or refused it for a reason
abbrev pub GivesSecond : List Step → Offer → Sources → Result (Unit {0}) Stop → Type 0
GivesSecond steps offer sources (Ok _) = (dropped_for airs_of offer steps ≡ None) × SourcesStand (with_relayed_unit offer steps) sources
GivesSecond steps offer sources (Err (Refused reason)) = (dropped_for airs_of offer steps ≡ Some reason) × SourcesStand steps sources
GivesSecond steps offer sources (Err OutletFault) = ⊥
GivesSecond steps offer sources (Err Memory) = Unit {0}

-- units were offered to source 1 after these steps: it took those that it takes, and the others have their lines behind a text
abbrev pub OffersMeet : List Step → List Offer → Sources → Relays → (text told : List ℕ) → Result (Unit {0}) Stop → Type 0
OffersMeet steps offers sources relays text told (Ok _) =
    SourcesStand (after_offers airs_of offers steps) sources × RelaysStand (relay_histories (after_offers airs_of offers steps)) relays
    × (told ≡ text ++ answer_lines (answered airs_of offers steps))
OffersMeet steps offers sources relays text told (Err (Refused reason)) = ⊥
OffersMeet steps offers sources relays text told (Err OutletFault) = ⊥
OffersMeet steps offers sources relays text told (Err Memory) = Unit {0}

-- the line of a unit that isn't taken for this reason stands behind a text
abbrev pub Drops : (sink bis : ℕ) → Refusal → (text told : List ℕ) → Result (Unit {0}) Stop → Type 0
Drops sink bis reason text told (Ok _) = told ≡ text ++ dropped_line sink bis reason
Drops sink bis reason text told (Err (Refused other)) = ⊥
Drops sink bis reason text told (Err OutletFault) = ⊥
Drops sink bis reason text told (Err Memory) = Unit {0}

-- ---- the sinks, one behind the other

-- what the relay of a sink offers, as sinks with this past close an event of source 0
abbrev pub offers_of : List Step → Histories → (n event : ℕ) → List Offer
offers_of steps past n event = offered_of n (relay_of n steps) (handed_all (closing_of n 0 event past))

-- the sources, the sinks and the relays are as these steps and this past left them
pub record ComponentsStand (steps : List Step) (past : Histories) (machine : Machine) : Type 0 where
  pub sources : SourcesStand steps machine.sources
  pub sinks : SinksStand past machine.sinks
  pub relays : RelaysStand (relay_histories steps) machine.relays

-- one sink closed an event of source 0, and its relay offered what it handed up
abbrev pub SinkMeets : List Step → Histories → (n event : ℕ) → Machine → (text told : List ℕ) → (before after : List Account) → Result (Unit {0}) Stop → Type 0
SinkMeets steps past n event new text told before after (Ok _) =
    ComponentsStand (after_offers airs_of (offers_of steps past n event) steps) (with_close_at n 0 event past) new
    × (told ≡ text ++ (unit_lines (closing_of n 0 event past) ++ answer_lines (answered airs_of (offers_of steps past n event) steps)))
    × (after ≡ accounts_after before (closing_of n 0 event past))
SinkMeets steps past n event new text told before after (Err (Refused reason)) = ⊥
SinkMeets steps past n event new text told before after (Err OutletFault) = BoxFails (closing_of n 0 event past) text told before after
SinkMeets steps past n event new text told before after (Err Memory) = CutShort (closing_of n 0 event past) before after

-- what is offered by the first sinks
abbrev pub offers_below : List Step → Histories → (event number : ℕ) → List Offer
offers_below steps past event number = flat_map (λ n. offers_of steps past n event) (range_with_len 0 number)

-- what the first sinks hand up
abbrev pub units_below : Histories → (event number : ℕ) → List SinkUnit
units_below past event number = flat_map (λ n. closing_of n 0 event past) (range_with_len 0 number)

-- the lines of a sink: its units, and then those that it offered and that source 1 didn't take
abbrev pub lines_at : List Step → Histories → (n event : ℕ) → List ℕ
lines_at steps past n event =
    unit_lines (closing_of n 0 event past)
    ++ answer_lines (answered airs_of (offers_of steps past n event) (after_offers airs_of (offers_below steps past event n) steps))

abbrev pub lines_below : List Step → Histories → (event number : ℕ) → List ℕ
lines_below steps past event number = flat_map (λ n. lines_at steps past n event) (range_with_len 0 number)

-- a box of a sink stopped a close of source 0, behind the lines of the sinks below it
pub record FirstFails (steps : List Step) (past : Histories) (event : ℕ) (text told : List ℕ) (before after : List Account) : Type 0 where
  pub number : ℕ
  pub within : number < 8
  pub fails : BoxFails (closing_of number 0 event past) (text ++ lines_below steps past event number) told
      (accounts_after before (units_below past event number)) after

-- all sinks closed an event of source 0, and their relays offered what they handed up
abbrev pub FirstMeets : List Step → Histories → (event : ℕ) → Machine → (text told : List ℕ) → (before after : List Account) → Result (Unit {0}) Stop → Type 0
FirstMeets steps past event new text told before after (Ok _) =
    ComponentsStand (after_offers airs_of (offers_below steps past event 8) steps) (with_close 0 (Some event) past) new
    × (told ≡ text ++ lines_below steps past event 8) × (after ≡ accounts_after before (units_below past event 8))
FirstMeets steps past event new text told before after (Err (Refused reason)) = ⊥
FirstMeets steps past event new text told before after (Err OutletFault) = FirstFails steps past event text told before after
FirstMeets steps past event new text told before after (Err Memory) = CutShort (units_below past event 8) before after

-- ---- either source

-- the sinks of a source beside 0 closed an event of it
abbrev pub SecondMeets : List Step → Histories → (source event : ℕ) → Machine → (text told : List ℕ) → (before after : List Account) → Result (Unit {0}) Stop → Type 0
SecondMeets steps past source event new text told before after (Ok _) =
    ComponentsStand steps (with_close source (Some event) past) new × Hands (closings source event past sink_numbers) text told before after (Ok tt)
SecondMeets steps past source event new text told before after (Err stop) =
    Hands (closings source event past sink_numbers) text told before after (Err stop)

-- the open event of a source, where one is open, was closed
abbrev pub Closes : List Step → Histories → (source : ℕ) → Option ℕ → Machine → (text told : List ℕ) → (before after : List Account) → Result (Unit {0}) Stop → Type 0
Closes steps past source None new text told before after result = ComponentsStand steps past new × (told ≡ text) × (after ≡ before) × (result ≡ Ok tt)
Closes steps past zero (Some event) new text told before after result = FirstMeets steps past event new text told before after result
Closes steps past (suc other) (Some event) new text told before after result = SecondMeets steps past (suc other) event new text told before after result

-- What a sink of source 1 hands up of a stream that has a relay, by what the relaying sink handed up (the SDUs and their times are
-- those of Core 5.2, volume 6 part G, sections 2.2 and 3.2). Relays are this project's own. Lists of steps have the newest first,
-- lists of units the oldest.
use Rattle.std.specs.Prelude.{ℕ, ◌≡◌, ◌≤◌, ◌+◌, ◌&&◌, Bool, false, List, [], ◌∷◌, ◌++◌, map, Some, slice_get, if◌then◌else◌}
use Rattle.std.specs.List.{AllZip, Contains}
use Rattle.std.specs.List.Sorted.{IsStrictlyIncreasing}
use Rattle.bcast_base.specs.declared.unit.Unit.{Unit as AudioUnit}
use Rattle.bcast_io.specs.TextLines.{TextLine}
use Rattle.big_info.specs.Time.{iso_us_of, sync_delay_of}
use Rattle.group_sink.specs.Handing.{bis_of}
use Rattle.scenario_history.specs.Runs.{Accepted}
use Rattle.scenario_text.specs.declared.step.Step.{Step}
use Rattle.scenario_text.specs.declared.step.Step.TheVariants.{Relay}
use Rattle.source_machine.specs.Calls.{Setup, given}
use Rattle.unit_outlets.specs.Account.{Account}
use Rattle.unit_outlets.specs.Handed.{Handed, valid}
use Rattle.scenario_history.specs.Airs.{MeetAirs}
use Rattle.scenario_history.specs.RelayedUnits.{closes_first, happened}
use Rattle.scenario_history.specs.Relays.{relay_of}
use Rattle.scenario_history.specs.Lines.{rules_of, said_of, steps_of}
use Rattle.scenario_history.specs.Source.{setup_of, source_calls}
use Rattle.source_machine.specs.Airs.{Airs}
use Rattle.scenario_history.specs.Steps.{steps_of_source}
use Rattle.scenario_laws.specs.RelayedUnits.Laws.{IsRelayed, is_route, offered}
use Rattle.scenario_laws.specs.RelayedUnits.Legal.{AreSaidLegally}
use Rattle.scenario_laws.specs.Laws.{injected_since, is_made, shown_since}
use Rattle.scenario_laws.specs.SourceUnits.{time_in}

-- from the unit time of a framed unit to the time at which it is rendered, in µs
abbrev pub time_to_render : Setup → ℕ
time_to_render setup = sync_delay_of setup.info + setup.info.sdu_interval + iso_us_of setup.info + setup.delay

-- the entry is of the unit of this number among those that were offered: it is rendered so much later than the time at which the
-- relaying sink handed that unit up, and if it is valid it has its octets
pub record IsOfOffered (setup : Setup) (to : ℕ) (units : List AudioUnit) (number : ℕ) (entry : Handed) : Type 0 where
  pub unit : AudioUnit
  pub is_offered : slice_get units number ≡ Some unit
  pub stream : bis_of entry ≡ to
  pub time_is : time_in entry ≡ unit.time + time_to_render setup
  pub valid_is : (stream : ℕ) → (time : ℕ) → (octets : List ℕ) → entry ≡ valid stream time octets → octets ≡ unit.octets

-- there are rising numbers such that the entries are, in order, of the units of these numbers that were offered
pub record InRelayOrder (setup : Setup) (to : ℕ) (units : List AudioUnit) (entries : List Handed) : Type 0 where
  pub numbers : List ℕ
  pub rising : IsStrictlyIncreasing numbers
  pub each : AllZip (IsOfOffered setup to units) numbers entries

-- a list ends with another
pub record EndsWith (all last : List AudioUnit) : Type 0 where
  pub before : List AudioUnit
  pub parts : all ≡ before ++ last

-- ---- the units of both sources

-- a unit by its number among those that source 0 accepted on a stream, and its place among those that the relaying sink handed up
pub record UnitPlace : Type 0 where
  pub number : ℕ
  pub place : ℕ

-- The entry is of this unit, of those with these octets that source 0 accepted on a stream and of these that the relaying sink handed up:
-- it is rendered so much later than the time at which it was handed up there, and if it is valid it has its octets.
pub record IsOfFirst (given : List (List ℕ)) (handed : List AudioUnit) (setup : Setup) (to : ℕ) (at : UnitPlace) (entry : Handed)
    : Type 0 where
  pub unit : AudioUnit
  pub is_given : slice_get given at.number ≡ Some unit.octets
  pub is_handed : slice_get handed at.place ≡ Some unit
  pub stream : bis_of entry ≡ to
  pub time_is : time_in entry ≡ unit.time + time_to_render setup
  pub valid_is : (stream : ℕ) → (time : ℕ) → (octets : List ℕ) → entry ≡ valid stream time octets → octets ≡ unit.octets

-- the entries are, in order, of units whose numbers rise, and so do their places: so no two entries are of one unit
pub record InFirstOrder (given : List (List ℕ)) (handed : List AudioUnit) (setup : Setup) (to : ℕ) (entries : List Handed) : Type 0 where
  pub units : List UnitPlace
  pub numbers_rise : IsStrictlyIncreasing (map (λ at. at.number) units)
  pub places_rise : IsStrictlyIncreasing (map (λ at. at.place) units)
  pub each : AllZip (IsOfFirst given handed setup to) units entries

-- Something came to sink `n` that source 0 did not send, from when it was made to the last close of source 0 at which its relay handed
-- stream `bis` on to stream `to`. A stream of source 1 has one relay at most, ever: so this is one history of the sink.
abbrev pub injected_till_last_offer : (n bis to : ℕ) → List Step → Bool
injected_till_last_offer n bis to [] = false
injected_till_last_offer n bis to (step ∷ earlier) =
    if is_route bis to (relay_of n earlier) && closes_first earlier step then injected_since (is_made n) n earlier
    else injected_till_last_offer n bis to earlier

-- The relayed units law over what happens by steps of lines of which none was refused and one is `relay N B B2`: where no PDU was
-- injected and no train given by its octets into sink N, from when it was made to the last close of source 0 before its `drop`, nor
-- into a sink M since it was made, what M handed up of B2 of source 1 since it was made is in the order of source 0: each entry is of
-- a unit that source 0 accepted on B and that N offered, none is of one twice, a valid one has the unit's octets, and each is rendered
-- at T + Delay + SDU_Interval + ISO + Presentation_Delay, the last four of source 1, where T is the time at which N handed the unit up.
abbrev pub RelayedUnits : ℕ → Type 0
RelayedUnits boxes = (airs : Airs) → MeetAirs airs → (said : List Step) → AreSaidLegally airs boxes said
    → (n : ℕ) → (bis : ℕ) → (to : ℕ) → Contains said (Relay n bis to) → 1 ≤ bis → bis ≤ 31 → 1 ≤ to → to ≤ 31
    → (m : ℕ) → m ≤ 7 → injected_till_last_offer n bis to said ≡ false
    → injected_since (is_made m) m (happened airs said) ≡ false
    → InFirstOrder (given bis (source_calls (steps_of_source 0 (happened airs said)))) (offered airs n bis to said)
    (setup_of (steps_of_source 1 (happened airs said))) to (shown_since (is_made m) airs 1 m to (happened airs said))

-- ---- the lines of a text

-- The relay law: after each line of a scenario of which none was refused, `IsRelayed` holds of each `relay N B B2` line in it.
abbrev pub RelayLinesLaw : List Account → Type 0
RelayLinesLaw starts = (airs : Airs) → (lines : List TextLine) → Accepted (rules_of airs starts) lines
    → (n : ℕ) → (bis : ℕ) → (to : ℕ) → Contains (said_of lines) (Relay n bis to) → IsRelayed airs (said_of lines) n bis to

-- The relayed units law of a scenario of which no line was refused.
abbrev pub RelayedUnitsLaw : List Account → Type 0
RelayedUnitsLaw starts = (airs : Airs) → MeetAirs airs → (lines : List TextLine) → Accepted (rules_of airs starts) lines
    → (n : ℕ) → (bis : ℕ) → (to : ℕ) → Contains (said_of lines) (Relay n bis to) → 1 ≤ bis → bis ≤ 31 → 1 ≤ to → to ≤ 31
    → (m : ℕ) → m ≤ 7 → injected_till_last_offer n bis to (said_of lines) ≡ false
    → injected_since (is_made m) m (steps_of airs lines) ≡ false
    → InFirstOrder (given bis (source_calls (steps_of_source 0 (steps_of airs lines)))) (offered airs n bis to (said_of lines))
    (setup_of (steps_of_source 1 (steps_of airs lines))) to (shown_since (is_made m) airs 1 m to (steps_of airs lines))

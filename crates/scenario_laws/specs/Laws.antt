-- What the laws of the units speak of: the PDUs that were injected, the events of a source that a sink closed, the units
-- that it handed up, and the units that the source accepted (Core 5.2, volume 6 part G, sections 2.1 and 3.2). Lists of
-- steps have the newest first; lists of events, of slots and of units have the oldest first.
use Rattle.std.specs.Prelude.{ℕ, ◌+◌, ◌-◌, ◌/◌, ◌<◌, ◌≤◌, ◌≡◌, ◌⊎◌, ◌==◌, ◌&&◌, ◌||◌, nat_le, Bool, false, List, [], ◌∷◌, ◌++◌, map, Option, None, Some, slice_get, unwrap_or, if◌then◌else◌}
use Rattle.std.specs.List.{AllZip, Contains, flat_map, list_any, range_with_len}
use Rattle.std.specs.List.Sorted.{IsStrictlyIncreasing}
use Rattle.big_info.specs.Schedule.{per_event_of}
use Rattle.bcast_io.specs.TextLines.{TextLine}
use Rattle.unit_outlets.specs.Account.{Account}
use Rattle.unit_outlets.specs.Handed.{Handed}
use Rattle.iso_pdu.specs.Layout.{Part, start}
use Rattle.isoal_base.specs.Air.{Air}
use Rattle.isoal_base.specs.Stays as stays
use Rattle.isoal_framed.specs.Histories.{heard_in}
use Rattle.isoal_framed.specs.Struck.{Sent, closed_end, struck}
use Rattle.isoal_framed.specs.Tokens.{time_of as start_time}
use Rattle.isoal_unframed.specs.Struck.{Place, Struck}
use Rattle.scenario_history.specs.Runs.{Accepted}
use Rattle.source_machine.specs.Airs.{slots_of, Airs}
use Rattle.source_machine.specs.Calls.{Setup, next_of}
use Rattle.group_sink.specs.Calls.{Call, place}
use Rattle.sync_reference.specs.BigSync.{BigSync}
use Rattle.group_sink.specs.Handing.{bis_of, of_stream}
use Rattle.group_sink.specs.Streams.{closes, is_in, stay_on, stream_calls, streams_of}
use Rattle.scenario_text.specs.declared.step.Step.{Step}
use Rattle.scenario_text.specs.declared.step.Step.TheVariants.{Sink, Tuned, Event, Inject, Announce, Train, Stop, Terminate, End}
use Rattle.sink_history.specs.History.{made_of}
use Rattle.sink_history.specs.Moves.{brings_by}
use Rattle.scenario_history.specs.Steps.{chosen_of, steps_of_source}
use Rattle.scenario_history.specs.Worlds.{calls_made, source_at}
use Rattle.scenario_history.specs.Source.{setup_of, source_calls, open_event}
use Rattle.scenario_history.specs.Airs.{MeetAirs}
use Rattle.scenario_history.specs.Sinks.{is_of, sink_calls, source_of}
use Rattle.scenario_history.specs.Boxes.{SinkUnit, handed_by}
use Rattle.scenario_history.specs.Lines.{rules_of, steps_of}
use Rattle.scenario_history.specs.RelayedUnits.{handed_of}
use Rattle.scenario_laws.specs.RelayedUnits.Legal.{AreLegal}
use Rattle.scenario_laws.specs.SourceUnits.{AreSent, InSourceOrder, InUnitOrder, IsOfSlot, anchor_in, time_in, valid_in, whole_stay}

-- ---- what comes to a sink that its source did not send

-- a PDU is injected into the sink of this number, or a train is given to it by its octets
abbrev pub is_injected : ℕ → Step → Bool
is_injected n (Inject sink back bis subevent octets) = sink == n
is_injected n (Train sink time ext adv acad) = sink == n
is_injected n _ = false

abbrev pub is_given : ℕ → Step → Bool
is_given n (Train sink time ext adv acad) = sink == n
is_given n _ = false

abbrev pub brings_to : ℕ → ℕ → Step → List Step → Bool
brings_to n sink step earlier = (sink == n) && brings_by (source_at earlier) step (made_of n earlier) (calls_made n earlier)

abbrev pub is_tuned : ℕ → List Step → Step → Bool
is_tuned n earlier (Tuned sink which) = sink == n
is_tuned n earlier (Announce sink) = brings_to n sink (Announce sink) earlier
is_tuned n earlier (Train sink time ext adv acad) = brings_to n sink (Train sink time ext adv acad) earlier
is_tuned n earlier _ = false

abbrev pub is_made : ℕ → List Step → Step → Bool
is_made n earlier (Sink sink streams slots mtu) = sink == n
is_made n earlier _ = false

-- one of these steps was made since the last step that begins, or is the one that begins
abbrev pub any_since : (List Step → Step → Bool) → (Step → Bool) → List Step → Bool
any_since begins is_one [] = false
any_since begins is_one (step ∷ earlier) = if begins earlier step then is_one step else (is_one step || any_since begins is_one earlier)

-- something came to the sink that its source did not send
abbrev pub injected_since : (List Step → Step → Bool) → ℕ → List Step → Bool
injected_since begins n steps = any_since begins (is_injected n) steps

abbrev pub given_since_made : ℕ → List Step → Bool
given_since_made n steps = any_since (is_made n) (is_given n) steps

-- ---- what a sink handed up

abbrev pub handed_since : (List Step → Step → Bool) → Airs → List Step → List SinkUnit
handed_since begins airs [] = []
handed_since begins airs (step ∷ earlier) =
    if begins earlier step then [] else handed_since begins airs earlier ++ handed_by airs earlier step

abbrev pub shown_since : (List Step → Step → Bool) → Airs → ℕ → ℕ → ℕ → List Step → List Handed
shown_since begins airs s n bis steps = of_stream bis (handed_of s n (handed_since begins airs steps))

-- ---- one stay

abbrev pub calls_on : Airs → List Step → ℕ → BigSync → ℕ → List stays.Call
calls_on airs steps n tuning bis = stream_calls (stay_on tuning bis) (sink_calls airs n steps)

abbrev pub steps_before : (List Step → Step → Bool) → List Step → List Step
steps_before begins [] = []
steps_before begins (step ∷ earlier) = if begins earlier step then earlier else steps_before begins earlier

-- The stay is on the source's group: it has its numbers, its delay and some of its streams. It began with the source's next event, at its
-- anchor by the source's own, and its open event is at most the source's next one. So its times are by the source's anchors.
pub record IsOfSource (airs : Airs) (steps : List Step) (s n : ℕ) (tuning : BigSync) : Type 0 where
  pub info : tuning.info ≡ (setup_of (steps_of_source s steps)).info
  pub delay : tuning.delay ≡ (setup_of (steps_of_source s steps)).delay
  pub streams : (bis : ℕ) → Contains (streams_of tuning.which) bis → bis ≤ (setup_of (steps_of_source s steps)).info.num_bis
  pub first_is : tuning.first ≡ next_of (setup_of (steps_of_source s steps)) (source_calls (steps_of_source s (steps_before (is_tuned n) steps)))
  pub anchor : tuning.anchor ≡ anchor_in (setup_of (steps_of_source s steps)) tuning.first
  pub open_is : tuning.first + closes tuning (sink_calls airs n steps) ≤ next_of (setup_of (steps_of_source s steps)) (source_calls (steps_of_source s steps))

abbrev pub air_in : Airs → List Step → ℕ → Air
air_in airs own bis = unwrap_or (slice_get (airs (setup_of own) (source_calls own)) (bis - 1)) []

-- in a stay on a framed stream the air of the source sends units, and what the sink handed up on it in the stay is struck over them
pub record IsFramedStruck (airs : Airs) (steps : List Step) (s n : ℕ) (tuning : BigSync) (bis : ℕ) : Type 0 where
  pub some : (units : List Sent)
      × AreSent (setup_of (steps_of_source s steps)) (source_calls (steps_of_source s steps)) bis (air_in airs (steps_of_source s steps) bis) units
  pub each : (units : List Sent)
      → AreSent (setup_of (steps_of_source s steps)) (source_calls (steps_of_source s steps)) bis (air_in airs (steps_of_source s steps) bis) units
      → shown_since (is_tuned n) airs s n bis steps ≡ struck (stay_on tuning bis) units (calls_on airs steps n tuning bis)

-- the stay is on the source's group, and what the sink handed up on the stream in it is struck, by the framing of the group: over the
-- source's slots of each event that was closed in the stay, or over the units that the source's air sends
pub record IsStayStruck (airs : Airs) (steps : List Step) (s n : ℕ) (tuning : BigSync) (bis : ℕ) : Type 0 where
  pub of_source : IsOfSource airs steps s n tuning
  pub unframed : (setup_of (steps_of_source s steps)).info.framing ≡ 0
      → Struck (stay_on tuning bis) (slots_of (setup_of (steps_of_source s steps)) (source_calls (steps_of_source s steps)) bis)
      (calls_on airs steps n tuning bis) (shown_since (is_tuned n) airs s n bis steps)
  pub framed : (setup_of (steps_of_source s steps)).info.framing ≡ 1 → IsFramedStruck airs steps s n tuning bis

-- The units law: of a scenario of which no line was refused, where a sink is on a group of source `s`, and since it was put there no PDU
-- was injected into it and no train was given to it by its octets, the stay is on the group of the source, and what the sink handed up
-- since on a stream that it takes is struck. It holds after each step, so at the end of each stay too.
abbrev pub UnitsLaw : List Account → Type 0
UnitsLaw starts = (airs : Airs) → MeetAirs airs → (lines : List TextLine) → Accepted (rules_of airs starts) lines
    → (s : ℕ) → (n : ℕ) → (bis : ℕ) → (tuning : BigSync) → place (sink_calls airs n (steps_of airs lines)) ≡ Some tuning
    → source_of n (steps_of airs lines) ≡ Some s → Contains (streams_of tuning.which) bis
    → injected_since (is_tuned n) n (steps_of airs lines) ≡ false → IsStayStruck airs (steps_of airs lines) s n tuning bis

-- ---- the stays of a sink with a source

-- an event that a sink closed, and the set of streams that it took in that stay
pub record Closed : Type 0 where
  pub event : ℕ
  pub which : ℕ

-- the open event of the sink, where it is at most this event
abbrev pub closed_in : Option BigSync → List Call → ℕ → List Closed
closed_in None calls event = []
closed_in (Some tuning) calls event = if nat_le (tuning.first + closes tuning calls) event
    then record { event = tuning.first + closes tuning calls; which = tuning.which } ∷ [] else []

abbrev pub closed_at : List Call → Option ℕ → List Closed
closed_at calls None = []
closed_at calls (Some event) = closed_in (place calls) calls event

abbrev pub closed_if : Bool → List Call → Option ℕ → List Closed
closed_if is_its calls last_open = if is_its then closed_at calls last_open else []

abbrev pub closed_with : Airs → ℕ → ℕ → List Step → List Closed
closed_with airs s n earlier =
    closed_if (is_of s (source_of n earlier)) (sink_calls airs n earlier) (open_event (steps_of_source s earlier))

abbrev pub closed_by : Airs → ℕ → ℕ → List Step → Step → List Closed
closed_by airs s n earlier Event = if chosen_of earlier == s then closed_with airs s n earlier else []
closed_by airs s n earlier Stop = if chosen_of earlier == s then closed_with airs s n earlier else []
closed_by airs s n earlier (Terminate reason) = if chosen_of earlier == s then closed_with airs s n earlier else []
closed_by airs s n earlier End = closed_with airs s n earlier
closed_by airs s n earlier _ = []

abbrev pub closed_since : Airs → ℕ → ℕ → List Step → List Closed
closed_since airs s n [] = []
closed_since airs s n (step ∷ earlier) =
    if is_made n earlier step then [] else closed_since airs s n earlier ++ closed_by airs s n earlier step

abbrev pub slots_in : Setup → ℕ → Closed → List Place
slots_in setup bis closed = if is_in closed.which bis
    then map (λ slot. record { event = closed.event; slot = slot }) (range_with_len 0 (per_event_of setup.info)) else []

abbrev pub slots_closed : Setup → ℕ → List Closed → List Place
slots_closed setup bis closed = flat_map (slots_in setup bis) closed

-- ---- the starts that a sink heard

-- a segment of a PDU, from 0, by the payload number of the PDU
pub record SegmentPlace : Type 0 where
  pub number : ℕ
  pub segment : ℕ

-- in the order in which they are sent, none twice
abbrev pub IsBefore : SegmentPlace → SegmentPlace → Type 0
IsBefore one other = (one.number < other.number) ⊎ ((one.number ≡ other.number) × (one.segment < other.segment))

abbrev pub AreInOrder : List SegmentPlace → Type 0
AreInOrder (one ∷ other ∷ places) = IsBefore one other × AreInOrder (other ∷ places)
AreInOrder _ = Unit {0}

-- The sink heard this start with this TimeOffset in a stay with the source: after the earlier of its steps, since which it wasn't
-- made again, it was on a group of the source and took the stream; in that stay the first PDU that it heard under this payload
-- number has at this place a segment that begins a unit, with this TimeOffset; and the event of the number was closed in it.
pub record IsStartHeard (airs : Airs) (steps : List Step) (s n bis : ℕ) (at : SegmentPlace) (offset : ℕ) : Type 0 where
  pub later : List Step
  pub made : List Step
  pub steps_are : steps ≡ later ++ made
  pub same_sink : list_any (is_made n made) later ≡ false
  pub tuning : BigSync
  pub there : place (sink_calls airs n made) ≡ Some tuning
  pub its_source : source_of n made ≡ Some s
  pub taken : Contains (streams_of tuning.which) bis
  pub parts : List Part
  pub heard : heard_in (stay_on tuning bis) (calls_on airs made n tuning bis) at.number ≡ Some parts
  pub complete : Bool
  pub octets : List ℕ
  pub is_start : slice_get parts at.segment ≡ Some (start offset complete octets)
  pub closed : at.number < closed_end (stay_on tuning bis) (calls_on airs made n tuning bis)

-- the entry is of the stream and of a start that the sink heard, whose number is of an event that was performed: its time is the framed
-- one by that event's anchor, by the source's own, and the TimeOffset of the start
pub record IsOfStart (airs : Airs) (steps : List Step) (s n bis : ℕ) (at : SegmentPlace) (entry : Handed) : Type 0 where
  pub offset : ℕ
  pub heard : IsStartHeard airs steps s n bis at offset
  pub event : ℕ
  pub event_is : event ≡ at.number / (setup_of (steps_of_source s steps)).info.bn
  pub least : (setup_of (steps_of_source s steps)).first ≤ event
  pub performed : event < next_of (setup_of (steps_of_source s steps)) (source_calls (steps_of_source s steps))
  pub stream : bis_of entry ≡ bis
  pub time_is : time_in entry ≡ start_time (whole_stay (setup_of (steps_of_source s steps)) bis) event offset

pub record InStartOrder (airs : Airs) (steps : List Step) (s n bis : ℕ) (entries : List Handed) : Type 0 where
  pub places : List SegmentPlace
  pub order : AreInOrder places
  pub each : AllZip (IsOfStart airs steps s n bis) places entries

-- ---- all stays with a source

-- Over all stays of a sink with one source: the events of it that the sink closed since it was made rise, so that none is closed twice. On
-- an unframed stream it handed up one entry for each slot of each of these events, in order and at the slot's time; on a framed one its
-- entries are, in order, of starts that it heard, each at most once, at the framed time. Where no PDU was injected, its valid units of an
-- unframed stream, and its entries of a framed one, are in order of units that the source accepted, each at most once.
pub record StaysInOrder (airs : Airs) (steps : List Step) (s n : ℕ) : Type 0 where
  pub rising : IsStrictlyIncreasing (map (λ (closed : Closed). closed.event) (closed_since airs s n steps))
  pub slots : (bis : ℕ) → n ≤ 7 → 1 ≤ bis → bis ≤ 31 → (setup_of (steps_of_source s steps)).info.framing ≡ 0
      → AllZip (IsOfSlot (setup_of (steps_of_source s steps)) bis)
      (slots_closed (setup_of (steps_of_source s steps)) bis (closed_since airs s n steps)) (shown_since (is_made n) airs s n bis steps)
  pub starts : (bis : ℕ) → n ≤ 7 → 1 ≤ bis → bis ≤ 31 → (setup_of (steps_of_source s steps)).info.framing ≡ 1
      → InStartOrder airs steps s n bis (shown_since (is_made n) airs s n bis steps)
  pub in_source_order : (bis : ℕ) → n ≤ 7 → 1 ≤ bis → bis ≤ 31 → (setup_of (steps_of_source s steps)).info.framing ≡ 0
      → injected_since (is_made n) n steps ≡ false
      → InSourceOrder (setup_of (steps_of_source s steps)) (source_calls (steps_of_source s steps)) bis
      (valid_in (shown_since (is_made n) airs s n bis steps))
  pub in_unit_order : (bis : ℕ) → n ≤ 7 → 1 ≤ bis → bis ≤ 31 → (setup_of (steps_of_source s steps)).info.framing ≡ 1
      → injected_since (is_made n) n steps ≡ false
      → InUnitOrder (setup_of (steps_of_source s steps)) (source_calls (steps_of_source s steps)) bis
      (air_in airs (steps_of_source s steps) bis) (shown_since (is_made n) airs s n bis steps)

-- over steps of which none was refused, be they those of lines or relayed units, the stays of each sink with each source are in
-- order, where no train was given to the sink by its octets since it was made
abbrev pub StepsInOrder : Type 0
StepsInOrder = (airs : Airs) → MeetAirs airs → (boxes : ℕ) → (steps : List Step) → AreLegal airs boxes steps
    → (s : ℕ) → (n : ℕ) → s ≤ 1 → given_since_made n steps ≡ false → StaysInOrder airs steps s n

-- The order law: of a scenario of which no line was refused, the stays of each sink with each source are in order, where no train
-- was given to the sink by its octets since it was made.
abbrev pub OrderLaw : List Account → Type 0
OrderLaw starts = (airs : Airs) → MeetAirs airs → (lines : List TextLine) → Accepted (rules_of airs starts) lines
    → (s : ℕ) → (n : ℕ) → s ≤ 1 → given_since_made n (steps_of airs lines) ≡ false → StaysInOrder airs (steps_of airs lines) s n

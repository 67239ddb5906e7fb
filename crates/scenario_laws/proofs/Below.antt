-- The laws of lower crates that the laws of units stand on.
use Rattle.scenario_laws.proofs.Known.Sources.{ℕ, ◌≡◌, ◌<◌, ◌≤◌, ◌+◌, ◌++◌, List, [], length, Some, slice_get, Contains, Group, Bounds, pdu, Stay, opened, Air, IsFramedAir, Timed, decided, Sends, Sent, Fit, InOrder, closed_end, handed, Slots, FromSource, Struck, payload_number, AreAirs, airs_of, content_at, pdu_of, Setup, next_of, IsChecked, Call, BigSync, of_stream, stay_on, stream_calls, streams_of, FramedCall, accepted as timed, FramedFromSource, struck as struck_over, SourceCall, place, ticked_since as handed_since, closes, LinesInRange, StayCall}
use Rattle.scenario_laws.proofs.Announced.{Announcing}

pub record Below : Type 0 where
  -- what a line says is in range
  pub in_range : LinesInRange
  -- some airs meet the relation
  pub some_airs : (setup : Setup) → (calls : List SourceCall) → IsChecked setup.info → AreAirs setup calls (airs_of setup calls)
  -- each subevent carries the PDU of its payload number, by division
  pub counted : (group : Group) → (setup : Setup) → (calls : List SourceCall) → (airs : List Air) → (event : ℕ) → (bis : ℕ) → (subevent : ℕ)
      → setup.info ≡ group.info → setup.info.framing ≡ 0 → AreAirs setup calls airs → setup.first ≤ event → event < next_of setup calls
      → 1 ≤ bis → bis ≤ group.info.num_bis → subevent < group.info.nse
      → pdu_of setup airs event bis subevent ≡ Some (pdu (content_at setup calls bis (payload_number setup.info event subevent)))
  -- what an event that was performed sent stays
  pub sent_stays : (group : Group) → (setup : Setup) → (later : List SourceCall) → (calls : List SourceCall) → (airs : List Air) → (others : List Air)
      → (event : ℕ) → (bis : ℕ) → (subevent : ℕ) → setup.info ≡ group.info
      → AreAirs setup calls airs → AreAirs setup (later ++ calls) others → setup.first ≤ event → event < next_of setup calls
      → 1 ≤ bis → bis ≤ group.info.num_bis → subevent < group.info.nse
      → pdu_of setup others event bis subevent ≡ pdu_of setup airs event bis subevent
  -- the units law of a stay in which each PDU heard is the source's own
  pub struck : (stay : Stay) → (slots : Slots) → (calls : List StayCall) → Bounds stay.info → stay.info.framing ≡ 0
      → ((event : ℕ) → (slot : ℕ) → (unit : List ℕ) → slots event slot ≡ Some unit → length unit ≤ stay.info.max_sdu) → FromSource stay slots calls
      → Struck stay slots calls (handed stay calls)
  -- the framed units law of such a stay
  pub framed_struck : (stay : Stay) → (units : List Sent) → (laid : ℕ) → (calls : List StayCall) → 1 ≤ stay.info.bn → InOrder 0 laid units → closed_end stay calls ≤ laid
      → Fit stay.info.max_sdu units → FramedFromSource stay units calls → decided stay calls ≡ struck_over stay units calls
  -- a framed air sends units
  pub sends_units : (group : Group) → (calls : List FramedCall) → (air : Air) → group.info.framing ≡ 1
      → ((i : ℕ) → (unit : Timed) → slice_get (timed calls) i ≡ Some unit → length unit.octets ≤ group.info.max_sdu) → IsFramedAir group.info calls air
      → (units : List Sent) × Sends group.info calls air units
  -- all streams of a group have the same open event
  pub one_open : (tuning : BigSync) → (calls : List Call) → (bis : ℕ) → opened (stay_on tuning bis) (stream_calls (stay_on tuning bis) calls) ≡ tuning.first + closes tuning calls
  -- a sink hands of each stream that it takes what the closes of the stream's stay hand, and nothing of any other stream
  pub hands : (tuning : BigSync) → (calls : List Call) → (bis : ℕ) → tuning.info.framing ≡ 0 → place calls ≡ Some tuning → Contains (streams_of tuning.which) bis
      → of_stream bis (handed_since calls) ≡ handed (stay_on tuning bis) (stream_calls (stay_on tuning bis) calls)
  pub framed_hands : (tuning : BigSync) → (calls : List Call) → (bis : ℕ) → tuning.info.framing ≡ 1 → place calls ≡ Some tuning → Contains (streams_of tuning.which) bis
      → of_stream bis (handed_since calls) ≡ decided (stay_on tuning bis) (stream_calls (stay_on tuning bis) calls)
  pub others : (tuning : BigSync) → (calls : List Call) → (bis : ℕ) → place calls ≡ Some tuning → ¬ Contains (streams_of tuning.which) bis → of_stream bis (handed_since calls) ≡ []
  -- the laws of announcements
  pub announcing : Announcing

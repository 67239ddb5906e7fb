-- What is true of every source and of each of its streams, and what laying events does to a stream.
use Rattle.std.specs.Prelude.{ℕ, ◌+◌, ◌-◌, ◌*◌, ◌/◌, ◌%◌, ◌^◌, ◌≡◌, ◌≤◌, ◌<◌, min, true, false, List, ◌∷◌, ◌++◌, length, All, if◌then◌else◌, Option, None, Some, unwrap_or, slice_get, option_and_then}
use Rattle.std.specs.List.{flat_map, range_with_len}
use Rattle.big_info.specs.declared.info.BigInfo.{BigInfo}
use Rattle.big_info.specs.Schedule.{horizon_of}
use Rattle.big_info.specs.Time.{iso_us_of}
use Rattle.sync_reference.specs.Reference.{anchor_of}
use Rattle.isoal_base.specs.Air.{Air}
use Rattle.isoal_unframed.specs.Calls.{Call as PlainCall, accept, lay, lays}
use Rattle.isoal_framed.specs.Calls.{Call as TimedCall, accept as accept_timed, lay as lay_at}
use Rattle.radio_schedule.specs.PayloadNumber.{ahead_of}
use Rattle.source_machine.specs.Airs.{AreAirs, Sends, air_after, stale_in, stale_of, stale_on}
use Rattle.source_machine.specs.Calls.{Setup, Call as SourceCall, event, framed_calls, framed_lays, stream_calls}
use Rattle.source_machine.specs.Faults.{event_fault, refused_event}
use Rattle.source_machine.specs.Setups.{IsChecked}
use Rattle.source_machine.specs.State.Senders.{HasTime, waiting_in}
use Rattle.source_machine.specs.State.Sources.{AfterFault, Source, StandsFor, Stream, StreamStands, StreamsAre, info_in, kept_of}
use Rattle.source_machine.specs.declared.fault.EventFault.{EventFault}
use Rattle.source_machine.specs.declared.fault.EventFault.TheVariants.{Memory}
use Rattle.source_machine.specs.declared.laying.Laying.{Laying}
use Rattle.source_machine.specs.declared.sent.Sent.{Sent}
use Rattle.source_machine.specs.declared.sent.Stale.{Stale}

-- what a stream keeps: whole events, at most as many as there is room for
pub record Keeps (info : BigInfo) (capacity : ℕ) (laid : List (List (List ℕ))) : Type 0 where
  pub room : capacity ≡ kept_of info
  pub within : length laid ≤ capacity
  pub whole : All (λ pdus. length pdus ≡ info.bn) laid

-- the stream is of the group, and keeps the last 32 events that were performed, or all where there are fewer, and the H
-- events behind them
pub record IsReady (setup : Setup) (next : ℕ) (stream : Stream) : Type 0 where
  pub info : info_in stream ≡ setup.info
  pub kept : setup.first < next → horizon_of setup.info + min 32 (next - setup.first) ≤ length stream.laid

-- the stream is of the group, and keeps the event `back` events before the one that has the newest H events behind it
pub record IsLaid (info : BigInfo) (back : ℕ) (stream : Stream) : Type 0 where
  pub group : info_in stream ≡ info
  pub kept : horizon_of info + back < length stream.laid

pub record IsSource (source : Source) : Type 0 where
  pub origin : source.setup.origin ≤ 2 ^ 48
  pub delay : source.setup.delay < 2 ^ 24
  pub first : source.setup.first ≤ source.next
  pub last : source.next ≤ 2 ^ 39
  pub streams : length source.streams ≡ source.setup.info.num_bis
  pub ready : All (IsReady source.setup source.next) source.streams

-- what the time of a unit may not pass: the next anchor, or nothing where times may be ahead
abbrev pub limit_of : Source → Option ℕ
limit_of source =
    if source.setup.ahead then None
    else Some (anchor_of source.setup.origin source.setup.first source.next (iso_us_of source.setup.info))

-- these events are laid with the next one: the H events behind the first one with it, one with each later one
pub record LaysNext (source : Source) (laying : Laying) : Type 0 where
  pub iso_us : laying.iso_us ≡ iso_us_of source.setup.info
  pub first : source.next ≡ source.setup.first → (laying.count ≡ horizon_of source.setup.info + 1) × (laying.anchor ≡ source.setup.origin)
  pub later : source.setup.first < source.next
      → (laying.count ≡ 1) × (laying.anchor ≡ source.setup.origin + (source.next - source.setup.first + horizon_of source.setup.info) * iso_us_of source.setup.info)

-- the PDU that a subevent carries in the event `back` events before the one that has the newest H events behind it
abbrev pub sent_of : Stream → (back subevent : ℕ) → Option (List ℕ)
sent_of stream back subevent =
    option_and_then (λ pdus. slice_get pdus (subevent % (info_in stream).bn))
    (slice_get stream.laid
    (length stream.laid + ahead_of (info_in stream) (subevent / (info_in stream).bn) - (horizon_of (info_in stream) + 1 + back)))

-- the PDU at a place of the list of the event that has the newest H events behind it
abbrev pub sent_at : BigInfo → List Stream → ℕ → Option (List ℕ)
sent_at info streams place = option_and_then (λ stream. sent_of stream 0 (place % info.nse)) (slice_get streams (place / info.nse))

-- a unit that the group has a stream for, and room in a slot or in segments
pub record IsFit (setup : Setup) (bis : ℕ) (octets : List ℕ) : Type 0 where
  pub has_stream : bis ≤ setup.info.num_bis
  pub short : length octets ≤ setup.info.max_sdu

-- no event is lost
pub record Grows (old new : Stream) : Type 0 where
  pub info : info_in new ≡ info_in old
  pub laid : length old.laid ≤ length new.laid

-- an event with this anchor was laid, and these units were told that it left out
pub record LaysOne (anchor : ℕ) (old new : Stream) (told now_told : List Stale) : Type 0 where
  pub grows : Grows old new
  pub laid : min (kept_of (info_in old)) (length old.laid + 1) ≤ length new.laid
  pub stands : (info : BigInfo) (bis : ℕ) (plain : List PlainCall) (timed : List TimedCall) → IsChecked info → StreamStands info bis plain timed old
      → StreamStands info bis (lay ∷ plain) (lay_at anchor ∷ timed) new
      × (now_told ≡ told ++ stale_on bis (stale_in 1 (air_after info (lay ∷ plain) (lay_at anchor ∷ timed))))

-- so many events were laid, the first with this anchor
pub record Lays (anchor iso_us count : ℕ) (old new : Stream) : Type 0 where
  pub grows : Grows old new
  pub laid : min (kept_of (info_in old)) (length old.laid + count) ≤ length new.laid
  pub stands : (info : BigInfo) (bis : ℕ) (plain : List PlainCall) (timed : List TimedCall) → IsChecked info → StreamStands info bis plain timed old
      → StreamStands info bis (lays count plain) (framed_lays anchor iso_us count timed) new

-- and these units were told that they left out
abbrev pub Tells : (anchor iso_us count : ℕ) → Stream → (told now_told : List Stale) → Type 0
Tells anchor iso_us count old told now_told =
    (info : BigInfo) (bis : ℕ) (plain : List PlainCall) (timed : List TimedCall) → IsChecked info → StreamStands info bis plain timed old
    → now_told ≡ told ++ stale_on bis (stale_in count (air_after info (lays count plain) (framed_lays anchor iso_us count timed)))

-- what a stream tells of these events after these calls of the source
abbrev pub told_by : Setup → List SourceCall → (anchor iso_us count bis : ℕ) → List Stale
told_by setup calls anchor iso_us count bis =
    stale_on bis
    (stale_in count
    (air_after setup.info (lays count (stream_calls setup.info bis calls)) (framed_lays anchor iso_us count (framed_calls setup bis calls))))

-- what the first streams tell, by rising index
abbrev pub AllTell : (anchor iso_us count : ℕ) → List Stream → ℕ → (told now_told : List Stale) → Type 0
AllTell anchor iso_us count streams n told now_told =
    (setup : Setup) (calls : List SourceCall) → IsChecked setup.info → StreamsAre setup calls streams
    → now_told ≡ told ++ flat_map (told_by setup calls anchor iso_us count) (range_with_len 1 n)

-- a unit was accepted
pub record Accepts (time limit : Option ℕ) (octets : List ℕ) (old new : Stream) : Type 0 where
  pub order : HasTime old.sender time limit
  pub room : waiting_in old.sender < 16
  pub grows : Grows old new
  pub stands : (info : BigInfo) (bis : ℕ) (plain : List PlainCall) (timed : List TimedCall) → StreamStands info bis plain timed old
      → StreamStands info bis (accept octets ∷ plain) (accept_timed (unwrap_or time 0) octets ∷ timed) new

-- what no event changes: who the source is, what it announces, and its setup
pub record IsAsSetUp (old new : Source) : Type 0 where
  pub identity : new.identity ≡ old.identity
  pub base : new.base ≡ old.base
  pub cipher : new.cipher ≡ old.cipher
  pub setup : new.setup ≡ old.setup

-- the next event may be performed: the source works, and no fault of these calls keeps it from the event
pub record MayPerform (source : Source) : Type 0 where
  pub works : source.failed ≡ false
  pub permitted : (calls : List SourceCall) → StandsFor calls source → event_fault source.setup calls ≡ None

-- the next event was performed and counted, and tells these units that it left out, whatever calls came before it
pub record Advances (old new : Source) (stale : List Stale) : Type 0 where
  pub next : new.next ≡ old.next + 1
  pub failed : new.failed ≡ old.failed
  pub stands : (calls : List SourceCall) → StandsFor calls old → StandsFor (event ∷ calls) new
  pub told : (calls : List SourceCall) (airs : List Air) → StandsFor calls old → AreAirs old.setup (event ∷ calls) airs
      → stale ≡ stale_of old.setup calls airs

-- the same of an event that sends these PDUs
pub record Performs (old new : Source) (sent : Sent) : Type 0 where
  pub is_next : sent.event ≡ old.next
  pub next : new.next ≡ old.next + 1
  pub failed : new.failed ≡ old.failed
  pub count : length sent.pdus ≡ old.setup.info.num_bis * old.setup.info.nse
  pub stands : (calls : List SourceCall) → StandsFor calls old → StandsFor (event ∷ calls) new
  pub sends : (calls : List SourceCall) (airs : List Air) → StandsFor calls old → AreAirs old.setup (event ∷ calls) airs
      → Sends old.setup airs old.next sent.pdus
  pub told : (calls : List SourceCall) (airs : List Air) → StandsFor calls old → AreAirs old.setup (event ∷ calls) airs
      → sent.stale ≡ stale_of old.setup calls airs

-- the next event was refused: why, and what that leaves
pub record Refuses (old new : Source) (fault : EventFault) : Type 0 where
  pub cause : (calls : List SourceCall) → StandsFor calls old → event_fault old.setup calls ≡ refused_event fault
  pub leaves : AfterFault fault old new
  pub failed : old.failed ≡ true → fault ≡ Memory

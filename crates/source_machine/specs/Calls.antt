-- The calls that a source took since its start, the newest first, and what they say of its events and of the units of
-- its streams (Core 5.2, volume 6 part B, section 4.4.6, and part G, sections 2 and 3.2).
use Rattle.std.specs.Prelude.{ℕ, ◌+◌, ◌-◌, ◌*◌, ◌==◌, zero, suc, Bool, if◌then◌else◌, unwrap_or, Option, Some, None, List, [], ◌∷◌, ◌++◌}
use Rattle.big_info.specs.declared.info.BigInfo.{BigInfo}
use Rattle.big_info.specs.Schedule.{horizon_of}
use Rattle.big_info.specs.Time.{iso_us_of}
use Rattle.sync_reference.specs.Reference.{anchor_of}
use Rattle.isoal_unframed.specs.Calls.{Call as StreamCall, accept, lays}
use Rattle.isoal_framed.specs.Calls.{Call as FramedCall, accept as accept_timed, lay as lay_at, last_time}

-- `origin` is the anchor of event `first` and `delay` Presentation_Delay, in µs; `ahead`: a framed time may be past the next anchor
pub record Setup : Type 0 where
  pub info : BigInfo
  pub origin : ℕ
  pub delay : ℕ
  pub first : ℕ
  pub ahead : Bool

pub data Call : Type 0 where
  give : (bis : ℕ) (time : Option ℕ) (octets : List ℕ) → Call
  event : Call

abbrev pub events : List Call → ℕ
events [] = 0
events (give bis time octets ∷ earlier) = events earlier
events (event ∷ earlier) = suc (events earlier)

abbrev pub next_of : Setup → List Call → ℕ
next_of setup calls = setup.first + events calls

-- the last event that was performed
abbrev pub last_of : Setup → List Call → Option ℕ
last_of setup calls = if events calls == 0 then None else Some (next_of setup calls - 1)

abbrev pub next_anchor_of : Setup → List Call → ℕ
next_anchor_of setup calls = anchor_of setup.origin setup.first (next_of setup calls) (iso_us_of setup.info)

abbrev pub given : ℕ → List Call → List (List ℕ)
given bis [] = []
given bis (give stream time octets ∷ earlier) = if stream == bis then given bis earlier ++ octets ∷ [] else given bis earlier
given bis (event ∷ earlier) = given bis earlier

-- how many events are laid with one that is performed after these calls: the first one and the H behind it, then the next one
abbrev pub laid_with : BigInfo → List Call → ℕ
laid_with info earlier = if events earlier == 0 then horizon_of info + 1 else 1

abbrev pub laid_before : BigInfo → List Call → ℕ
laid_before info earlier = if events earlier == 0 then 0 else events earlier + horizon_of info

-- the anchor of an event that is laid, in µs: events count from the first one laid as 0
abbrev pub lay_anchor : Setup → ℕ → ℕ
lay_anchor setup n = setup.origin + n * iso_us_of setup.info

-- what these calls mean to a stream of an unframed group
abbrev pub stream_calls : BigInfo → ℕ → List Call → List StreamCall
stream_calls info bis [] = []
stream_calls info bis (give stream time octets ∷ earlier) =
    if stream == bis then accept octets ∷ stream_calls info bis earlier else stream_calls info bis earlier
stream_calls info bis (event ∷ earlier) = lays (laid_with info earlier) (stream_calls info bis earlier)

-- `count` events laid one behind the other, the first with this anchor
abbrev pub framed_lays : (anchor iso_us count : ℕ) → List FramedCall → List FramedCall
framed_lays anchor iso_us zero calls = calls
framed_lays anchor iso_us (suc count) calls = lay_at (anchor + count * iso_us) ∷ framed_lays anchor iso_us count calls

-- what these calls mean to a stream of a framed group; a unit without a time is never accepted there
abbrev pub framed_calls : Setup → ℕ → List Call → List FramedCall
framed_calls setup bis [] = []
framed_calls setup bis (give stream time octets ∷ earlier) =
    if stream == bis then accept_timed (unwrap_or time 0) octets ∷ framed_calls setup bis earlier else framed_calls setup bis earlier
framed_calls setup bis (event ∷ earlier) =
    framed_lays (lay_anchor setup (laid_before setup.info earlier)) (iso_us_of setup.info) (laid_with setup.info earlier)
    (framed_calls setup bis earlier)

abbrev pub last_time_of : Setup → ℕ → List Call → Option ℕ
last_time_of setup bis calls = last_time (framed_calls setup bis calls)

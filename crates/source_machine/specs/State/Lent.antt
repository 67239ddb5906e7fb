-- What a stream sent in an event, as it is lent (Core 5.2, volume 6 part B, section 4.4.6).
use Rattle.std.specs.Prelude.{ℕ, ◌+◌, ◌/◌, ◌%◌, ◌^◌, ◌≡◌, ◌≤◌, ◌<◌, List, [], map, Option, IsSome, slice_get, slice_index, unwrap_or}
use Rattle.std.specs.List.{range_with_len}
use Rattle.std.specs.Option.{option_and_then}
use Rattle.big_info.specs.declared.info.BigInfo.{BigInfo}
use Rattle.radio_schedule.specs.PayloadNumber.{ahead_of}

-- for each subevent of a group how many events ahead its payload is
abbrev pub AheadsAre : BigInfo → List ℕ → Type 0
AheadsAre info aheads = (s : ℕ) → s < info.nse → slice_index aheads s ≡ ahead_of info (s / info.bn)

-- and the place of its PDU among those of that event
abbrev pub PlacesAre : BigInfo → List ℕ → Type 0
PlacesAre info places = (s : ℕ) → s < info.nse → slice_index places s ≡ s % info.bn

-- the PDU that a subevent of the event at `place` carries, where these are the PDUs of the events that are laid
abbrev pub lent_at : List (List (List ℕ)) → (place : ℕ) → (aheads places : List ℕ) → (subevent : ℕ) → Option (List ℕ)
lent_at laid place aheads places subevent =
    option_and_then (λ pdus. slice_get pdus (slice_index places subevent)) (slice_get laid (place + slice_index aheads subevent))

-- the PDUs of its first `count` subevents
abbrev pub lent_pdus : List (List (List ℕ)) → (place : ℕ) → (aheads places : List ℕ) → (count : ℕ) → List (List ℕ)
lent_pdus laid place aheads places count = map (λ s. unwrap_or (lent_at laid place aheads places s) []) (range_with_len 0 count)

-- each of these subevents carries a PDU of an event that is laid
pub record AllLent (laid : List (List (List ℕ))) (place : ℕ) (aheads places : List ℕ) (count : ℕ) : Type 0 where
  pub near : place < 2 ^ 32
  pub few : count ≤ 31
  pub each : (s : ℕ) → s < count → IsSome (lent_at laid place aheads places s)

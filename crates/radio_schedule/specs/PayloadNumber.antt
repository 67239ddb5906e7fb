-- Which payload a subevent carries (Core 5.2, volume 6 part B, section 4.4.6).
use Rattle.std.specs.Prelude.{ℕ, ◌+◌, ◌-◌, ◌*◌, ◌/◌, ◌%◌, nat_lt, if◌then◌else◌, ◌<◌, ◌≤◌}
use Rattle.big_info.specs.declared.info.BigInfo.{BigInfo}
use Rattle.big_info.specs.Schedule.{horizon_of}

-- how many events ahead the payloads of a group of subevents are: the first IRC groups carry the current event
abbrev pub ahead_of : BigInfo → ℕ → ℕ
ahead_of info group = if nat_lt group info.irc then 0 else info.pto * (group - info.irc + 1)

-- the number of the payload in a subevent, from 0, of an event
abbrev pub payload_number : BigInfo → ℕ → ℕ → ℕ
payload_number info event subevent = (event + ahead_of info (subevent / info.bn)) * info.bn + subevent % info.bn

-- the numbers that an event's subevents may carry: those of this event and of the H events after it
pub record InWindow (info : BigInfo) (event number : ℕ) : Type 0 where
  pub least : event * info.bn ≤ number
  pub past : number < (event + horizon_of info + 1) * info.bn

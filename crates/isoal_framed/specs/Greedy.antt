-- What comes next where PDUs (Core 5.2, volume 6 part G, section 2.2) are filled greedily, which is this project's own.
use Rattle.std.specs.Prelude.{ℕ, ◌-◌, ◌==◌, nat_lt, nat_le, ◌&&◌, true, false, length, Option, Some, None, if◌then◌else◌}
use Rattle.isoal_framed.specs.Calls.{Timed}
use Rattle.isoal_framed.specs.Places.{Act, carries, leaves_out, ends, overhead, least_room}

-- as much of the unit as there is room for
abbrev pub sends : ℕ → ℕ → Timed → Act
sends room sent unit =
    if nat_le (length unit.octets - sent) (room - overhead sent) then carries (length unit.octets - sent) true
    else carries (room - overhead sent) false

abbrev pub unless_stale : ℕ → ℕ → ℕ → Timed → Act
unless_stale anchor room sent unit =
    if (sent == 0) && nat_lt 16777215 (anchor - unit.time) then leaves_out else sends room sent unit

abbrev pub unless_early : ℕ → ℕ → ℕ → Timed → Act
unless_early anchor room sent unit =
    if (sent == 0) && nat_lt anchor unit.time then ends else unless_stale anchor room sent unit

abbrev pub act_for : ℕ → ℕ → ℕ → Timed → Act
act_for anchor room sent unit =
    if nat_lt room (least_room sent (length unit.octets)) then ends else unless_early anchor room sent unit

abbrev pub act_of : ℕ → ℕ → ℕ → Option Timed → Act
act_of anchor room sent None = ends
act_of anchor room sent (Some unit) = act_for anchor room sent unit

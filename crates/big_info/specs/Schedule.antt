-- What a group's numbers say of its events and units (Core 5.2, volume 6 part B, section 4.4.6, and part G, section 2).
-- Quotients by 0 are 0.
use Rattle.std.specs.Prelude.{ℕ, ◌-◌, ◌*◌, ◌/◌}
use Rattle.std.specs.Int.{div_ceil}
use Rattle.big_info.specs.declared.info.BigInfo.{BigInfo}
use Rattle.big_info.specs.Time.{iso_us_of}

-- GC: the groups of subevents of an event
abbrev pub group_count : BigInfo → ℕ
group_count info = info.nse / info.bn

-- H: how many events ahead the last group of an event is sent
abbrev pub horizon_of : BigInfo → ℕ
horizon_of info = info.pto * (group_count info - info.irc)

-- k: the whole units of an event
abbrev pub per_event_of : BigInfo → ℕ
per_event_of info = iso_us_of info / info.sdu_interval

-- m: the PDUs that the longest unit takes
abbrev pub per_unit_of : BigInfo → ℕ
per_unit_of info = div_ceil info.max_sdu info.max_pdu

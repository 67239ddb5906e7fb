-- When events are sent and units are due, in µs (after Core 5.2, volume 6 part G, section 3.2).
use Rattle.std.specs.Prelude.{ℕ, ◌+◌, ◌-◌, ◌*◌}
use Rattle.big_info.specs.declared.info.BigInfo.{BigInfo}
use Rattle.big_info.specs.Time.{iso_us_of, sync_delay_of}

-- the anchor of an event, where event `first` has its anchor at `origin`
abbrev pub anchor_of : ℕ → ℕ → ℕ → ℕ → ℕ
anchor_of origin first event iso_us = origin + (event - first) * iso_us

-- the reference of a slot, from 0, of the unframed event with this anchor
abbrev pub unframed_reference_of : BigInfo → ℕ → ℕ → ℕ
unframed_reference_of info anchor slot = anchor + sync_delay_of info + slot * info.sdu_interval

-- the reference of a unit that starts with this TimeOffset in the framed event with this anchor; 0 where it would be less
abbrev pub framed_reference_of : BigInfo → ℕ → ℕ → ℕ
framed_reference_of info anchor time_offset = anchor + sync_delay_of info + info.sdu_interval + iso_us_of info - time_offset

-- when a unit is rendered, by its reference and Presentation_Delay
abbrev pub render_of : ℕ → ℕ → ℕ
render_of reference delay = reference + delay

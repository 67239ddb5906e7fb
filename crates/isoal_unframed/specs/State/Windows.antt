-- What a receiver of an unframed stream holds, and what it hands up as an event is closed (Core 5.2, volume 6 part G,
-- sections 2.1 and 3.2).
use Rattle.std.specs.Prelude.{ℕ, ◌+◌, ◌*◌, List, ◌++◌, map, take, drop, replicate, Option, Some, None}
use Rattle.std.specs.List.{range_with_len, sum}
use Rattle.big_info.specs.Schedule.{per_event_of, per_unit_of}
use Rattle.big_info.specs.Time.{iso_us_of}
use Rattle.iso_pdu.specs.Layout.{Content}
use Rattle.sync_reference.specs.Reference.{anchor_of, unframed_reference_of, render_of}
use Rattle.unit_outlets.specs.Handed.{Handed, valid, lost}
use Rattle.isoal_base.specs.Stays.{Stay, Call, StandsFor}
use Rattle.isoal_base.specs.Hearing.{read_as, kept_after}
use Rattle.isoal_unframed.specs.Units.{unframed, unit_of, held_in}

-- the stay, the open event, and what is kept of each number of the window, from the first number of the open event on
pub record Window : Type 0 where
  pub stay : Stay
  pub event : ℕ
  pub kept : List (Option Content)

-- the window is that of these calls
abbrev pub Stands : List Call → Window → Type 0
Stands calls window = StandsFor (read_as unframed window.stay.info.max_pdu) window.stay calls window.event window.kept

-- the window after a PDU is heard, and after the open event is closed
abbrev pub after_hear : ℕ → List ℕ → Window → Window
after_hear number octets window =
    record window { kept = kept_after unframed window.stay.info window.event window.kept number octets }

abbrev pub after_close : Window → Window
after_close window = record window {
  event = window.event + 1;
  kept = drop window.stay.info.bn window.kept ++ replicate window.stay.info.bn None;
}

-- when the unit of a slot, from 0, is rendered
abbrev pub time_of : Stay → ℕ → ℕ → ℕ
time_of stay event slot =
    render_of (unframed_reference_of stay.info (anchor_of stay.origin stay.first event (iso_us_of stay.info)) slot) stay.delay

-- a slot's numbers, of those of its event
abbrev pub slot_in : Stay → List (Option Content) → ℕ → List (Option Content)
slot_in stay kept slot = take (per_unit_of stay.info) (drop (slot * per_unit_of stay.info) kept)

abbrev pub handed_of : ℕ → ℕ → Option (List ℕ) → Handed
handed_of bis time (Some octets) = valid bis time octets
handed_of bis time None = lost bis time

-- what is owed for the open event: the unit of each slot, in order, with its time
abbrev pub owed_at : Stay → ℕ → List (Option Content) → ℕ → Handed
owed_at stay event kept slot = handed_of stay.bis (time_of stay event slot) (unit_of stay.info.max_sdu (slot_in stay kept slot))

abbrev pub owed_of : Stay → ℕ → List (Option Content) → List Handed
owed_of stay event kept = map (owed_at stay event kept) (range_with_len 0 (per_event_of stay.info))

abbrev pub owed : Window → List Handed
owed window = owed_of window.stay window.event window.kept

-- the octets held of the units of the open event
abbrev pub held_at : Stay → List (Option Content) → ℕ → ℕ
held_at stay kept slot = held_in stay.info.max_sdu (slot_in stay kept slot)

abbrev pub held_in_event : Stay → List (Option Content) → ℕ
held_in_event stay kept = sum (map (held_at stay kept) (range_with_len 0 (per_event_of stay.info)))

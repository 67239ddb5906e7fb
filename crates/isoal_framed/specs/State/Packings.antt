-- What comes into a PDU that is being filled, and what it changes.
use Rattle.std.specs.Prelude.{ℕ, ◌+◌, ◌-◌, ◌≡◌, Bool, true, false, List, [], ◌∷◌, ◌++◌, Option, Some, None, if◌then◌else◌}
use Rattle.std.specs.List.{slice_get}
use Rattle.iso_pdu.specs.State.Packing.{room_in}
use Rattle.isoal_framed.specs.Air.{part_of}
use Rattle.isoal_framed.specs.Calls.{Timed}
use Rattle.isoal_framed.specs.Places.{Act, carries, leaves_out, ends, overhead}
use Rattle.isoal_framed.specs.Greedy.{act_of}
use Rattle.isoal_framed.specs.declared.packing.Packing.{Packing}

-- a segment of this unit
pub record Carried (anchor : ℕ) (unit : Timed) (count : ℕ) (complete : Bool) (old new : Packing) : Type 0 where
  pub parts : new.pdu.parts ≡ old.pdu.parts ++ part_of anchor old.sent (Some unit) count complete ∷ []
  pub room : room_in new.pdu ≡ room_in old.pdu - (overhead old.sent + count)
  pub past : new.past ≡ (if complete then old.past + 1 else old.past)
  pub sent : new.sent ≡ (if complete then 0 else old.sent + count)
  pub stale : new.stale ≡ old.stale

pub record LeftOut (unit : Timed) (old new : Packing) : Type 0 where
  pub pdu : new.pdu ≡ old.pdu
  pub past : new.past ≡ old.past + 1
  pub sent : new.sent ≡ old.sent
  pub stale : new.stale ≡ old.stale ++ unit.time ∷ []

-- what an act changes, and whether the PDU goes on behind it
abbrev pub Changes : ℕ → Option Timed → Act → Packing → Packing → Bool → Type 0
Changes anchor None (carries count complete) old new goes_on = ⊥
Changes anchor (Some unit) (carries count complete) old new goes_on = Carried anchor unit count complete old new × (goes_on ≡ true)
Changes anchor None leaves_out old new goes_on = ⊥
Changes anchor (Some unit) leaves_out old new goes_on = LeftOut unit old new × (goes_on ≡ true)
Changes anchor due ends old new goes_on = (new ≡ old) × (goes_on ≡ false)

abbrev pub Placed : ℕ → List Timed → Packing → Packing → Bool → Type 0
Placed anchor queue old new goes_on =
    Changes anchor (slice_get queue old.past) (act_of anchor (room_in old.pdu) old.sent (slice_get queue old.past)) old new goes_on

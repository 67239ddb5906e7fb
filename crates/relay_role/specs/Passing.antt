-- What passes from one stream to the other over a relay, told without looking at the reasons (a unit is an SDU of Core 5.2,
-- volume 6 part G, section 1). Relays are this project's own.
use Rattle.std.specs.Prelude.{ℕ, suc, ◌==◌, ◌||◌, false, Bool, if◌then◌else◌, List, [], ◌∷◌}
use Rattle.bcast_base.specs.declared.unit.Unit.{Unit as AudioUnit}
use Rattle.isoal_framed.specs.Calls.{accepted}
use Rattle.source_machine.specs.Calls.{framed_calls}
use Rattle.relay_role.specs.Relayed.{Second, stopped, streaming}
use Rattle.relay_role.specs.declared.dropped.DroppedUnit.{DroppedUnit}

-- a unit of this number is told as dropped
abbrev pub is_told : ℕ → List DroppedUnit → Bool
is_told number [] = false
is_told number (unit ∷ dropped) = (unit.number == number) || is_told number dropped

-- the units that aren't told as dropped, in order; the first has this number
abbrev pub undropped : ℕ → List DroppedUnit → List AudioUnit → List AudioUnit
undropped number dropped [] = []
undropped number dropped (unit ∷ units) =
    if is_told number dropped then undropped (suc number) dropped units else unit ∷ undropped (suc number) dropped units

-- the units that a stream took, each with its time, in order
abbrev pub taken_on : ℕ → Second → List AudioUnit
taken_on stream stopped = []
taken_on stream (streaming setup calls) = accepted (framed_calls setup stream calls)

-- A unit as C sees it.
use Rattle.std.specs.Prelude.{ℕ, List, take, if◌then◌else◌}
use Rattle.unit_outlets.specs.Handed.{Handed, valid, lost}
use Rattle.c_values.specs.declared.taking.VmUnit.{VmUnit}

-- its octets are the first ones of the room
abbrev pub unit_in : VmUnit → List ℕ → Handed
unit_in unit room = if unit.is_valid then valid unit.bis unit.time (take unit.count room) else lost unit.bis unit.time

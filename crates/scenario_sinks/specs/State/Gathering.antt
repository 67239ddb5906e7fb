-- The units that were gathered from a receiver (the SDUs of Core 5.2, volume 6 part G, section 1), as the calls of a
-- taker.
use Rattle.std.specs.Prelude.{ℕ, List, map, take, Option, Some, None, if◌then◌else◌}
use Rattle.unit_outlets.specs.Handed.{Handed, valid, lost, Counts}
use Rattle.scenario_history.specs.Boxes.{SinkUnit}
use Rattle.scenario_sinks.specs.declared.gathered.HandedUnit.{HandedUnit}
use Rattle.scenario_sinks.specs.declared.gathered.Gathered.{Gathered}
use Rattle.scenario_sinks.specs.declared.sink.Owner.{Owner}

abbrev pub handed_as : ℕ → ℕ → Option (List ℕ) → Handed
handed_as bis time (Some octets) = valid bis time octets
handed_as bis time None = lost bis time

abbrev pub octets_of : HandedUnit → Option (List ℕ)
octets_of unit = if unit.is_valid then Some unit.octets else None

abbrev pub handed_of : HandedUnit → Handed
handed_of unit = handed_as unit.bis unit.time (octets_of unit)

-- what stands behind the count is memory of earlier units
abbrev pub calls_of : Gathered → List Handed
calls_of gathered = map handed_of (take gathered.count gathered.units.items)

abbrev pub counts_of : Gathered → Counts
counts_of gathered = record { faults = 0; wants = gathered.wants }

-- these units of a sink
abbrev pub units_for : Owner → List Handed → List SinkUnit
units_for owner units = map (λ unit. record { source = owner.source; sink = owner.sink; box = owner.outlet; unit = unit }) units

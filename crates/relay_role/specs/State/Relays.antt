-- The units that wait in a relay, and the copies that a taker makes for it. Relays are this project's own.
use Rattle.std.specs.Prelude.{ℕ, ◌+◌, ◌-◌, ◌^◌, ◌==◌, min, if◌then◌else◌, List, [], ◌∷◌, ◌++◌}
use Rattle.bcast_base.specs.declared.unit.Unit.{Unit as AudioUnit}
use Rattle.unit_outlets.specs.Handed.{Counts}

-- the stream whose units are handed on, the stream that they go to, and the units that wait, oldest first
pub record Relay : Type 0 where
  pub bis : ℕ
  pub to : ℕ
  pub waiting : List AudioUnit

-- one more unit waits, as the last
abbrev pub with_unit : ℕ → List ℕ → Relay → Relay
with_unit time octets relay = record relay { waiting = relay.waiting ++ record { time = time; octets = octets } ∷ [] }

-- a valid unit of a stream was handed: it is copied where the stream is the relay's
abbrev pub copied : ℕ → ℕ → List ℕ → Relay → Relay
copied bis time octets relay = if relay.bis == bis then with_unit time octets relay else relay

-- the counts of a taker that makes copies: those of the taker that it hands to, and its own refused copies among the wants
abbrev pub with_own : ℕ → Counts → Counts
with_own own inner = record { faults = inner.faults; wants = min (inner.wants + own) (2 ^ 64 - 1) }

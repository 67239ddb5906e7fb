-- What becomes of the units that a relay offers to a stream of a source, one behind the other (a unit is an SDU of Core
-- 5.2, volume 6 part G, section 1). Relays are this project's own.
use Rattle.std.specs.Prelude.{ℕ, suc, nat_lt, nat_le, not, if◌then◌else◌, List, [], ◌∷◌, ◌++◌, length, Option, Some, None}
use Rattle.bcast_base.specs.declared.unit.Unit.{Unit as AudioUnit}
use Rattle.isoal_base.specs.Air.{Air}
use Rattle.source_machine.specs.Airs.{Airs, AreAirs, waiting_of}
use Rattle.source_machine.specs.Calls.{Setup, Call, give, last_time_of}
use Rattle.source_machine.specs.Faults.{is_above}
use Rattle.relay_role.specs.declared.dropped.DropName.{DropName}
use Rattle.relay_role.specs.declared.dropped.DropName.TheVariants.{NotStreaming, UnitTooLong, TimeOrder, Backlog}
use Rattle.relay_role.specs.declared.dropped.DroppedUnit.{DroppedUnit}

-- the source that a relay gives to: it has stopped, or it streams and took these calls, the newest first
pub data Second : Type 0 where
  stopped : Second
  streaming : (setup : Setup) (calls : List Call) → Second

-- why a source that streams doesn't take a unit for a stream: the unit has more octets than Max_SDU, its time isn't above
-- the last accepted one of the stream, 16 units of the stream wait
abbrev pub refusal_of : Setup → List Call → List Air → ℕ → AudioUnit → Option DropName
refusal_of setup calls airs to unit =
    if nat_lt setup.info.max_sdu (length unit.octets) then Some UnitTooLong
    else (if not (is_above (last_time_of setup to calls) unit.time) then Some TimeOrder
    else (if nat_le 16 (waiting_of calls airs to) then Some Backlog else None))

-- why a unit is dropped as it is offered to a stream, where it is: the source has stopped, or doesn't take it
abbrev pub drop_name : Airs → ℕ → AudioUnit → Second → Option DropName
drop_name airs to unit stopped = Some NotStreaming
drop_name airs to unit (streaming setup calls) = refusal_of setup calls (airs setup calls) to unit

-- a unit that isn't dropped is given to the source
abbrev pub taken_unless : Option DropName → ℕ → AudioUnit → Second → Second
taken_unless None to unit (streaming setup calls) = streaming setup (give to (Some unit.time) unit.octets ∷ calls)
taken_unless None to unit stopped = stopped
taken_unless (Some name) to unit second = second

-- the source once a unit was offered to a stream of it
abbrev pub after_offer : Airs → ℕ → AudioUnit → Second → Second
after_offer airs to unit second = taken_unless (drop_name airs to unit second) to unit second

-- the source once these units were offered to a stream of it, one behind the other
abbrev pub after_offers : Airs → ℕ → List AudioUnit → Second → Second
after_offers airs to [] second = second
after_offers airs to (unit ∷ units) second = after_offers airs to units (after_offer airs to unit second)

-- a dropped unit is told with its number
abbrev pub told : ℕ → Option DropName → List DroppedUnit
told number None = []
told number (Some name) = record { number = number; name = name } ∷ []

-- which of these units are dropped, each offered after the units before it; the first has this number
abbrev pub dropped_from : Airs → ℕ → ℕ → List AudioUnit → Second → List DroppedUnit
dropped_from airs to number [] second = []
dropped_from airs to number (unit ∷ units) second =
    told number (drop_name airs to unit second) ++ dropped_from airs to (suc number) units (after_offer airs to unit second)

-- a unit that isn't dropped passes
abbrev pub passed_unless : Option DropName → AudioUnit → List AudioUnit
passed_unless None unit = unit ∷ []
passed_unless (Some name) unit = []

-- which of these units the source takes, in order
abbrev pub passed : Airs → ℕ → List AudioUnit → Second → List AudioUnit
passed airs to [] second = []
passed airs to (unit ∷ units) second = passed_unless (drop_name airs to unit second) unit ++ passed airs to units (after_offer airs to unit second)

-- the airs of a source that streams meet the relation of its framing
abbrev pub MeetAt : Airs → Second → Type 0
MeetAt airs stopped = Unit {0}
MeetAt airs (streaming setup calls) = AreAirs setup calls (airs setup calls)

-- and they do so whatever units are offered
abbrev pub MeetAfter : Airs → ℕ → Second → Type 0
MeetAfter airs to second = (units : List AudioUnit) → MeetAt airs (after_offers airs to units second)

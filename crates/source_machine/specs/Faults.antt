-- Which calls of a source are refused, and why: the first cause that holds (Core 5.2, volume 6 part B, section 4.4.6:
-- payload counters have 39 bits; part G, section 2: only framed units have times of their own).
use Rattle.std.specs.Prelude.{ℕ, ◌+◌, ◌*◌, ◌^◌, ◌==◌, ◌&&◌, ◌||◌, nat_lt, nat_le, is_none, not, Bool, true, false, if◌then◌else◌, List, length, Option, Some, None}
use Rattle.big_info.specs.Schedule.{horizon_of}
use Rattle.radio_schedule.specs.declared.air.AirFault.{AirFault}
use Rattle.radio_schedule.specs.declared.air.AirFault.TheVariants.{NoSuchBis as NoStream, NoSuchSubevent, NotOnAir}
use Rattle.isoal_base.specs.declared.laid.PutFault.{PutFault}
use Rattle.isoal_base.specs.declared.laid.PutFault.TheVariants as put_faults
use Rattle.isoal_base.specs.Air.{Air}
use Rattle.source_machine.specs.Calls.{Setup, Call, events, last_time_of, next_anchor_of, next_of}
use Rattle.source_machine.specs.Airs.{waiting_of}
use Rattle.big_info.specs.declared.info.BigInfo.{BigInfo}
use Rattle.source_machine.specs.Ciphers.{IsBadFor}
use Rattle.source_machine.specs.UnitFaults as unit_faults
use Rattle.source_machine.specs.UnitFaults.{UnitFault}
use Rattle.source_machine.specs.declared.fault.ConfigureFault.{ConfigureFault}
use Rattle.source_machine.specs.declared.fault.ConfigureFault.TheVariants as configure_faults
use Rattle.source_machine.specs.declared.fault.GiveFault.{GiveFault}
use Rattle.source_machine.specs.declared.fault.GiveFault.TheVariants as give_faults
use Rattle.source_machine.specs.declared.fault.AnnounceFault.{AnnounceFault}
use Rattle.source_machine.specs.declared.fault.AnnounceFault.TheVariants as announce_faults
use Rattle.source_machine.specs.declared.fault.EventFault.{EventFault}
use Rattle.source_machine.specs.declared.fault.EventFault.TheVariants as event_faults

-- why a source takes no group, where a payload may be sent so many events ahead: the first row of the group check that
-- holds, where that is not the row of a cipher; no memory is taken, so none is wanting
abbrev pub ConfigureFails : ℕ → BigInfo → ConfigureFault → Type 0
ConfigureFails horizon info (configure_faults.BadGroup fault) = IsBadFor horizon info fault
ConfigureFails horizon info configure_faults.Memory = ⊥

abbrev pub is_above : Option ℕ → ℕ → Bool
is_above None time = true
is_above (Some last) time = nat_lt last time

-- a framed unit has a time, above that of the last one accepted on its stream, and not past the next anchor unless it may be ahead
abbrev pub is_in_time : Setup → List Call → ℕ → Option ℕ → Bool
is_in_time setup calls bis None = false
is_in_time setup calls bis (Some time) =
    is_above (last_time_of setup bis calls) time && (setup.ahead || nat_le time (next_anchor_of setup calls))

abbrev pub has_its_time : Setup → List Call → ℕ → Option ℕ → Bool
has_its_time setup calls bis time = if setup.info.framing == 0 then is_none time else is_in_time setup calls bis time

abbrev pub give_fault : Setup → List Call → List Air → ℕ → Option ℕ → List ℕ → Option UnitFault
give_fault setup calls airs bis time octets = if nat_lt setup.info.num_bis bis then Some unit_faults.NoSuchBis
    else (if nat_lt setup.info.max_sdu (length octets) then Some unit_faults.UnitTooLong
    else (if not (has_its_time setup calls bis time) then Some unit_faults.TimeOrder
    else (if nat_le 16 (waiting_of calls airs bis) then Some unit_faults.Backlog else None)))

-- why a unit is refused however few wait
abbrev pub misfit_of : Setup → List Call → ℕ → Option ℕ → List ℕ → Option UnitFault
misfit_of setup calls bis time octets =
    if nat_lt setup.info.num_bis bis then Some unit_faults.NoSuchBis
    else (if nat_lt setup.info.max_sdu (length octets) then Some unit_faults.UnitTooLong
    else (if not (has_its_time setup calls bis time) then Some unit_faults.TimeOrder else None))

abbrev pub event_fault : Setup → List Call → Option EventFault
event_fault setup calls =
    if nat_lt (2 ^ 39) ((next_of setup calls + horizon_of setup.info + 1) * setup.info.bn) then Some event_faults.CounterEnds else None

abbrev pub announce_fault : Setup → List Call → Option AnnounceFault
announce_fault setup calls = if nat_le (2 ^ 39) (next_of setup calls * setup.info.bn) then Some announce_faults.CounterEnds else None

-- why nothing is heard at a place: no such stream, no such subevent, or fewer than back + 1 events were performed
abbrev pub air_fault : Setup → List Call → ℕ → ℕ → ℕ → Option AirFault
air_fault setup calls back bis subevent = if nat_lt setup.info.num_bis bis then Some NoStream
    else (if nat_le setup.info.nse subevent then Some NoSuchSubevent
    else (if nat_le (events calls) back then Some NotOnAir else None))

-- what an answer says was refused; want of memory is no refusal
abbrev pub refused_unit : GiveFault → Option UnitFault
refused_unit give_faults.NoSuchBis = Some unit_faults.NoSuchBis
refused_unit give_faults.UnitTooLong = Some unit_faults.UnitTooLong
refused_unit give_faults.TimeOrder = Some unit_faults.TimeOrder
refused_unit give_faults.Backlog = Some unit_faults.Backlog
refused_unit give_faults.Memory = None

-- the answer that says so
abbrev pub answer_of : UnitFault → GiveFault
answer_of unit_faults.NoSuchBis = give_faults.NoSuchBis
answer_of unit_faults.UnitTooLong = give_faults.UnitTooLong
answer_of unit_faults.TimeOrder = give_faults.TimeOrder
answer_of unit_faults.Backlog = give_faults.Backlog

abbrev pub refused_event : EventFault → Option EventFault
refused_event event_faults.CounterEnds = Some event_faults.CounterEnds
refused_event event_faults.Memory = None

abbrev pub refused_train : AnnounceFault → Option AnnounceFault
refused_train announce_faults.CounterEnds = Some announce_faults.CounterEnds
refused_train announce_faults.Memory = None

-- what a sender's refusal is called here
abbrev pub of_sender : PutFault → GiveFault
of_sender put_faults.TooLong = give_faults.UnitTooLong
of_sender put_faults.TimeOrder = give_faults.TimeOrder
of_sender put_faults.Backlog = give_faults.Backlog
of_sender put_faults.Memory = give_faults.Memory

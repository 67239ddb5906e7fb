-- What a sink makes of octets that come to it in the place of a PDU of a source (Core 5.2, volume 6 part B, section 4.4.6).
use Rattle.std.specs.Prelude.{ℕ, ◌≡◌, true, is_some, List, Option, None, Some, if◌then◌else◌}
use Rattle.group_sink.specs.Calls.{Call}
use Rattle.group_sink.specs.Hearings.{hearing_of}
use Rattle.isoal_base.specs.declared.hearing.Hearing.{Hearing}
use Rattle.isoal_base.specs.declared.hearing.Hearing.TheVariants.{NotOnGroup}
use Rattle.scenario_history.specs.Sinks.{is_of}
use Rattle.scenario_sinks.specs.declared.sinks.Sinks.{Sinks}
use Rattle.scenario_sinks.specs.Histories.{Histories, with_hearing}
use Rattle.scenario_sinks.specs.State.Standing.{SinksStand}

-- a sink that isn't of the source is on no group of it
abbrev pub hearing_by : Option ℕ → List Call → (source event bis subevent : ℕ) → List ℕ → Hearing
hearing_by own received source event bis subevent octets =
    if is_of source own then hearing_of received event bis subevent octets else NotOnGroup

-- the answer of a sink with this box, where it has one and lives
abbrev pub hearing_where : (box own : Option ℕ) → List Call → (source event bis subevent : ℕ) → List ℕ → Option Hearing
hearing_where None own received source event bis subevent octets = None
hearing_where (Some box) own received source event bis subevent octets = Some (hearing_by own received source event bis subevent octets)

-- what the sink of a number, where it lives, made of them
abbrev pub Hears : Histories → (n source event bis subevent : ℕ) → List ℕ → Sinks → Option Hearing → Type 0
Hears past n source event bis subevent octets new None = past.boxes n ≡ None
Hears past n source event bis subevent octets new (Some hearing) =
    (is_some (past.boxes n) ≡ true) × (hearing ≡ hearing_by (past.sources n) (past.received n) source event bis subevent octets)
    × SinksStand (with_hearing n source event bis subevent octets past) new

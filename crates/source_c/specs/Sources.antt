-- What C's calls say of the source behind a handle.
use Rattle.std.specs.Prelude.{ℕ, ◌≡◌, Bool, List, [], drop, Option, Some, None, if◌then◌else◌}
use Rattle.base_grammar.specs.Layout.{Endpoint}
use Rattle.big_info.specs.declared.info.BigInfo.{BigInfo}
use Rattle.big_info.specs.declared.info.Cipher.{Cipher}
use Rattle.c_values.specs.Statuses as statuses
use Rattle.source_machine.specs.Calls.{Call, Setup}
use Rattle.source_machine.specs.Ciphers.{without_cipher}
use Rattle.source_machine.specs.State.Sources.{Source as Machine, StandsFor}
use Rattle.radio_schedule.specs.declared.air.AirFault.{AirFault}
use Rattle.radio_schedule.specs.declared.air.AirFault.TheVariants as air_faults
use Rattle.source_machine.specs.UnitFaults as faults
use Rattle.source_machine.specs.UnitFaults.{UnitFault}
use Rattle.source_machine.specs.declared.fault.EventFault.{EventFault}
use Rattle.source_machine.specs.declared.sent.Stale.{Stale}
use Rattle.source_machine.specs.declared.setup.Identity.{Identity}
use Rattle.source_c.specs.declared.handle.VmSource.{VmSource}
use Rattle.source_c.specs.declared.new.VmIdentity.{VmIdentity}
use Rattle.source_c.specs.declared.machine.SourceMachine.{SourceMachine}

-- what C said of a source as it made it: who it is, its BASE, its cipher, and what fixes its events
pub record Source : Type 0 where
  pub identity : Identity
  pub base : Endpoint
  pub cipher : Option Cipher
  pub setup : Setup

abbrev pub identity_c : VmIdentity → Identity
identity_c c = record { address_type = c.address_type; address = c.address; sid = c.sid; broadcast_id = c.broadcast_id }

-- a source of this group and BASE, whose first event has its anchor at the origin
abbrev pub source_c : VmIdentity → BigInfo → (origin first : ℕ) → Bool → Endpoint → Source
source_c identity info origin first ahead base = record {
  identity = identity_c identity;
  base = base;
  cipher = info.cipher;
  setup = record { info = without_cipher info; origin = origin; delay = base.delay; first = first; ahead = ahead };
}

pub record Keeps (source : Source) (calls : List Call) (machine : SourceMachine) : Type 0 where
  pub identity : machine.source.identity ≡ source.identity
  pub base : machine.source.base ≡ source.base
  pub cipher : machine.source.cipher ≡ source.cipher
  pub setup : machine.source.setup ≡ source.setup
  pub stands : StandsFor calls machine.source

abbrev pub KeptStands : Source → List Call → Option SourceMachine → Type 0
KeptStands source calls None = ⊥
KeptStands source calls (Some machine) = Keeps source calls machine

-- the handle keeps this source, which took these calls, the newest first
abbrev pub Stands : Source → List Call → VmSource → Type 0
Stands source calls handle = KeptStands source calls handle.kept

abbrev pub stale_kept : Option SourceMachine → List Stale
stale_kept None = []
stale_kept (Some machine) = drop machine.told machine.stale

-- the units that the last event left out and that C hasn't taken
abbrev pub stale_in : VmSource → List Stale
stale_in handle = stale_kept handle.kept

-- the time of a unit, or none
abbrev pub time_c : Bool → ℕ → Option ℕ
time_c has_time time = if has_time then Some time else None

-- the status that tells why a unit is refused
abbrev pub refused_c : Option UnitFault → ℕ
refused_c None = statuses.ok
refused_c (Some faults.NoSuchBis) = statuses.no_bis
refused_c (Some faults.UnitTooLong) = statuses.too_long
refused_c (Some faults.TimeOrder) = statuses.time_order
refused_c (Some faults.Backlog) = statuses.backlog

-- the status that tells why the next event isn't performed
abbrev pub ended_c : Option EventFault → ℕ
ended_c None = statuses.ok
ended_c (Some fault) = statuses.counter_ends

-- the status that tells why nothing is heard at a place
abbrev pub heard_c : Option AirFault → ℕ
heard_c None = statuses.ok
heard_c (Some air_faults.NoSuchBis) = statuses.no_bis
heard_c (Some air_faults.NoSuchSubevent) = statuses.no_subevent
heard_c (Some air_faults.NotOnAir) = statuses.not_on_air

-- the handle holds this source, and no unit waits
pub record HoldsIn (source : Machine) (machine : SourceMachine) : Type 0 where
  pub source_is : machine.source ≡ source
  pub stale : drop machine.told machine.stale ≡ []

abbrev pub Holds : Machine → Option SourceMachine → Type 0
Holds source None = ⊥
Holds source (Some machine) = HoldsIn source machine

-- Two sources side by side (Core 5.2, volume 6 part B, section 4.4.6), numbered 0 and 1, and which of them a sink is of.
use Rattle.std.specs.Prelude.{ℕ, ◌-◌, ◌≡◌, ◌==◌, true, false, Bool, if◌then◌else◌, List, [], Option, None, Some, slice_get}
use Rattle.source_machine.specs.declared.setup.Identity.{Identity}
use Rattle.source_machine.specs.declared.setup.Setup.{Setup as Given}
use Rattle.source_machine.specs.Calls.{Setup, Call}
use Rattle.source_machine.specs.Ciphers.{IsBadFor, MayBeSent}
use Rattle.source_machine.specs.Setups.{Configured, are_twins, started}
use Rattle.source_machine.specs.State.Sources.{AfterFault, Source, StandsFor as SourceStands}
use Rattle.source_machine.specs.declared.fault.ConfigureFault.{ConfigureFault}
use Rattle.source_machine.specs.declared.fault.ConfigureFault.TheVariants.{BadGroup as Misfit, Memory as NoMemory}
use Rattle.source_machine.specs.declared.fault.EventFault.{EventFault}
use Rattle.source_machine.specs.contracts.streaming.SourceStreaming.{the_row as source_row}
use Rattle.std.specs.Borrow.{LendsIf, MutBor, Fml}
use Rattle.multi_source.specs.contracts.field.Field.{the_row}
use Rattle.multi_source.specs.declared.field.Begun.{Begun}
use Rattle.multi_source.specs.declared.field.Field.{Field}
use Rattle.multi_source.specs.declared.field.FieldFault.{FieldFault}
use Rattle.multi_source.specs.declared.field.FieldFault.TheVariants.{BadGroup, IdentTwice, Memory}
use Rattle.multi_source.specs.State.Airs.{IsOfGroup, IsOnAir}

-- a source between its start and its stop
abbrev pub source_of : Field → ℕ → Option Source
source_of field s = if s == 0 then field.one else field.other

-- who a source is and what it sent, since its start
abbrev pub begun_of : Field → ℕ → Option Begun
begun_of field s = if s == 0 then field.one_begun else field.other_begun

-- the source that a sink is of
abbrev pub sink_of : Field → ℕ → Option (Option ℕ)
sink_of field sink = slice_get field.sinks sink

-- a source that was started is the same as this
abbrev pub is_taken : Identity → Option Begun → Bool
is_taken identity None = false
is_taken identity (Some begun) = are_twins begun.identity identity

-- nothing but this source changed
pub record OthersStay (s : ℕ) (old new : Field) : Type 0 where
  pub source : source_of new (1 - s) ≡ source_of old (1 - s)
  pub begun : begun_of new (1 - s) ≡ begun_of old (1 - s)
  pub sinks : new.sinks ≡ old.sinks

-- a source is between its start and its stop, and these are its setup and the calls that it took
pub record Sending (setup : Setup) (calls : List Call) (place : Option Source) (since : Option Begun) : Type 0 where
  pub source : Source
  pub source_is : place ≡ Some source
  pub setup_is : source.setup ≡ setup
  pub stands : SourceStands calls source
  pub begun : Begun
  pub begun_is : since ≡ Some begun
  pub air : IsOnAir setup calls begun.air

-- a source was started as it was configured
pub record Starts (setup : Configured) (first : ℕ) (place : Option Source) (since : Option Begun) : Type 0 where
  pub sending : Sending (started setup first) [] place since
  pub source : sending.source.identity ≡ setup.identity
  pub base : sending.source.base ≡ setup.base
  pub cipher : sending.source.cipher ≡ setup.cipher
  pub begun : sending.begun.identity ≡ setup.identity

-- why a source is not started, where a payload may be sent so many events ahead; memory is wanted only for one that the
-- group check and the other source leave
abbrev pub StartFails : ℕ → Given → Option Begun → FieldFault → Type 0
StartFails horizon setup other (BadGroup fault) = IsBadFor horizon setup.info fault
StartFails horizon setup other IdentTwice = MayBeSent horizon setup.info × (is_taken setup.identity other ≡ true)
StartFails horizon setup other Memory = MayBeSent horizon setup.info × (is_taken setup.identity other ≡ false)

-- the air of a source is of its group
abbrev pub HasOwnAir : Option Source → Option Begun → Type 0
HasOwnAir (Some source) (Some begun) = IsOfGroup source.setup begun.air
HasOwnAir source begun = ⊥

-- the group of a source is not encrypted
abbrev pub IsPlain : Option Source → Type 0
IsPlain None = Unit {0}
IsPlain (Some source) = source.cipher ≡ None

-- what a refused setup means
abbrev pub fault_of : ConfigureFault → FieldFault
fault_of (Misfit fault) = BadGroup fault
fault_of NoMemory = Memory

-- what a refused event leaves of a source: all as it was, or a source that has failed
abbrev pub EventLeaves : EventFault → Option Source → Option Source → Type 0
EventLeaves fault (Some old) (Some new) = AfterFault fault old new
EventLeaves fault None new = ⊥
EventLeaves fault old None = ⊥

-- a source is lent, and what the caller leaves stands in its place
abbrev pub with_source : Field → ℕ → Source → Field
with_source field s source = if s == 0 then record field { one = Some source } else record field { other = Some source }

abbrev pub LendsSource : MutBor Field → ℕ → Option (MutBor Source) → Fml
LendsSource field s source = LendsIf the_row source_row field source (with_source field.now s) field.now

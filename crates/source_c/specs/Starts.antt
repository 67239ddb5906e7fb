-- How a source starts, or why it doesn't.
use Rattle.std.specs.Prelude.{ℕ, ◌≡◌, Bool, [], Result, Ok, Err}
use Rattle.base_grammar.specs.Layout.{Endpoint}
use Rattle.base_grammar.specs.declared.fault.BaseFault.{BaseFault}
use Rattle.big_info.specs.Faults.{number_of}
use Rattle.big_info.specs.declared.fault.GroupFault.{GroupFault}
use Rattle.big_info.specs.declared.info.BigInfo.{BigInfo}
use Rattle.c_values.specs.Faults.{base_fault_c}
use Rattle.c_values.specs.declared.fault.AirFault.{AirFault}
use Rattle.source_machine.specs.Ciphers.{IsBadFor}
use Rattle.source_machine.specs.Setups.{configured, started}
use Rattle.source_machine.specs.State.Sources.{Source, StandsFor}
use Rattle.source_machine.specs.declared.setup.Setup.{Setup}
use Rattle.source_c.specs.declared.new.StartFault.{StartFault}
use Rattle.source_c.specs.declared.new.StartFault.TheVariants as faults

-- a source that was given this setup, before its first call
pub record Starts (setup : Setup) (ahead : Bool) (first : ℕ) (source : Source) : Type 0 where
  pub identity : source.identity ≡ setup.identity
  pub base : source.base ≡ setup.base
  pub cipher : source.cipher ≡ setup.info.cipher
  pub setup_is : source.setup ≡ started (configured setup ahead) first
  pub stands : StandsFor [] source

-- the first row of the group check that holds, but that of a cipher, for up to 31 events ahead
abbrev pub StartFails : BigInfo → StartFault → Type 0
StartFails info (faults.BadGroup fault) = IsBadFor 31 info fault
StartFails info faults.Memory = Unit {0}

-- the octets are no BASE, and this is told of the first fault
abbrev pub IsBadBase : Result Endpoint BaseFault → AirFault → Type 0
IsBadBase (Ok base) told = ⊥
IsBadBase (Err fault) told = told ≡ base_fault_c fault

-- the number of the row that holds is told
abbrev pub IsBadGroup : BigInfo → AirFault → Type 0
IsBadGroup info told = (fault : GroupFault) × IsBadFor 31 info fault × (told ≡ record { place = 0; number = number_of fault })

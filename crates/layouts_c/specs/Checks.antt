-- How C is told whether octets have a layout.
use Rattle.std.specs.Prelude.{ℕ, ◌≡◌, ◌≢◌, Result, Ok, Err}
use Rattle.big_info.specs.declared.big_fault.BigFault.{BigFault}
use Rattle.big_info.specs.declared.info.BigInfo.{BigInfo}
use Rattle.c_values.specs.Infos.{big_info}
use Rattle.c_values.specs.Statuses.{layout, ok}
use Rattle.c_values.specs.declared.fault.AirFault.{AirFault}
use Rattle.c_values.specs.declared.info.AirBigInfo.{AirBigInfo}

-- another status than that of the layout for octets that are read; that, and the first fault, for others
abbrev pub CheckedAs : {Y F : Type 0} → (F → AirFault) → Result Y F → ℕ → AirFault → AirFault → Type 0
CheckedAs told (Ok value) status old new = (status ≢ layout) × (new ≡ old)
CheckedAs told (Err fault) status old new = (status ≡ layout) × (new ≡ told fault)

-- the info that the octets are, or the status of the layout and the struct as it was
abbrev pub InfoReadAs : Result BigInfo BigFault → ℕ → AirBigInfo → AirBigInfo → Type 0
InfoReadAs (Ok info) status old new = (status ≡ ok) × (big_info new ≡ info)
InfoReadAs (Err fault) status old new = (status ≡ layout) × (new ≡ old)

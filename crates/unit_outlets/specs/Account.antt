-- What a box tells of the units that it took (the units are the SDUs of Core 5.2, volume 6 part G, section 1).
use Rattle.std.specs.Prelude.{ℕ, ◌+◌, ◌<◌, ◌^◌, Bool, List, [], ◌∷◌, ◌++◌, length, Option}
use Rattle.std.specs.Option.{option_map}
use Rattle.circular_buffer.specs.Buffer.{keep_last}

pub record Account : Type 0 where
  pub units : ℕ  -- the count of units
  pub octets : ℕ  -- the sum of their octets
  pub faults : ℕ  -- the count of faults
  pub is_sound : Bool  -- it fails only where a sum would pass 64 bits
  pub greatest : ℕ  -- the greatest number of units that it keeps
  pub kept : Option (List (List ℕ))  -- the units that it keeps, oldest first, where it tells them

abbrev pub fresh : Bool → ℕ → Option (List (List ℕ)) → Account
fresh is_sound greatest kept = record { units = 0; octets = 0; faults = 0; is_sound = is_sound; greatest = greatest; kept = kept }

abbrev pub kept_after : ℕ → List ℕ → Option (List (List ℕ)) → Option (List (List ℕ))
kept_after greatest unit kept = option_map (λ units. keep_last greatest (units ++ unit ∷ [])) kept

abbrev pub with_unit : List ℕ → Account → Account
with_unit unit a = record a { units = a.units + 1; octets = a.octets + length unit; kept = kept_after a.greatest unit a.kept }

abbrev pub Fits : List ℕ → Account → Type 0
Fits unit a = (a.units + 1 < 2 ^ 64) × (a.octets + length unit < 2 ^ 64)

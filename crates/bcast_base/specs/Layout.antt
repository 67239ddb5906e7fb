-- A layout is a list of fields, one behind the other, of which some have a value that is reserved for future use
-- (Core 5.2, volume 1 part E, section 2.2; Broadcast Audio Scan Service 1.0, sections 3.1.1 and 3.2).
use Rattle.std.specs.Prelude.{ℕ, ◌≡◌, ◌+◌, List, [], ◌∷◌, ◌++◌, length, Option, Some, None, Bool, true, false, if◌then◌else◌}
use Rattle.std.specs.List.{flat_map, AllByRecursion}

pub record Field : Type 0 where
  pub octets : List ℕ
  pub reserved : Bool

abbrev pub free : List ℕ → Field
free octets = record { octets = octets; reserved = false }

abbrev pub unless : Bool → List ℕ → Field
unless reserved octets = record { octets = octets; reserved = reserved }

abbrev pub laid : List Field → List ℕ
laid fields = flat_map (λ field. field.octets) fields

-- no field has a reserved value
abbrev pub NoneReserved : List Field → Type 0
NoneReserved fields = AllByRecursion (λ field. field.reserved ≡ false) fields

-- the first field with a reserved value is the one at this place
abbrev pub FirstReserved : ℕ → List Field → Type 0
FirstReserved place fields =
    (prefix : List Field) × (field : Field) × (back : List Field) × (fields ≡ prefix ++ field ∷ back) × NoneReserved prefix × (field.reserved ≡ true) × (place ≡ length (laid prefix))

-- the place of the first field with a reserved value, of fields that begin at this place
abbrev pub reserved_from : ℕ → List Field → Option ℕ
reserved_from place [] = None
reserved_from place (field ∷ fields) = if field.reserved then Some place else reserved_from (place + length field.octets) fields

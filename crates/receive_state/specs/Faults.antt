-- Why octets are no receive state (Broadcast Audio Scan Service 1.0, section 3.2): a field passes their end, or has a value
-- that is reserved for future use, or octets are left. At most one of these holds.
use Rattle.std.specs.Prelude.{ℕ, ◌≡◌, ◌<◌, List, ◌∷◌, ◌++◌, length}
use Rattle.bcast_base.specs.Layout.{Field, laid, NoneReserved, FirstReserved}
use Rattle.receive_state.specs.declared.fault.StateFault.{StateFault}
use Rattle.receive_state.specs.declared.fault.StateFault.TheVariants.{Short, Rfu, Trailing, Memory}
use Rattle.receive_state.specs.declared.state.ReceiveState.{ReceiveState}
use Rattle.receive_state.specs.Layout.{StateFields, fields, FieldsFit, IsEncoded}

-- the octets end within the field at this place
abbrev pub EndsIn : ℕ → List Field → List ℕ → Type 0
EndsIn place layout octets =
    (prefix : List Field) × (field : Field) × (back : List Field) × (part : List ℕ) × (more : List ℕ) × (layout ≡ prefix ++ field ∷ back)
    × (field.octets ≡ part ++ more) × (0 < length more) × (octets ≡ laid prefix ++ part) × (place ≡ length (laid prefix))

-- the field at this place passes the end; no octets at all are no source
abbrev pub IsShort : ℕ → List ℕ → Type 0
IsShort place octets = (0 < length octets) × ((s : StateFields) × FieldsFit s × EndsIn place (fields s) octets)

-- the octets begin with all fields, and these are left
pub record IsFollowed (s : StateFields) (octets rest : List ℕ) : Type 0 where
  pub widths : FieldsFit s
  pub parts : octets ≡ laid (fields s) ++ rest

-- the first field with a reserved value is the one at this place, whatever is left
abbrev pub IsReserved : ℕ → List ℕ → Type 0
IsReserved place octets = (s : StateFields) × (rest : List ℕ) × IsFollowed s octets rest × FirstReserved place (fields s)

-- no value is reserved, and octets are left from this place on
abbrev pub IsTrailing : ℕ → List ℕ → Type 0
IsTrailing place octets =
    (s : StateFields) × (rest : List ℕ) × IsFollowed s octets rest × NoneReserved (fields s) × (0 < length rest) × (place ≡ length (laid (fields s)))

-- this is what is wrong with the octets; only a state that has a subgroup is refused for want of memory
abbrev pub IsFault : StateFault → List ℕ → Type 0
IsFault (Short place) octets = IsShort place octets
IsFault (Rfu place) octets = IsReserved place octets
IsFault (Trailing place) octets = IsTrailing place octets
IsFault Memory octets = (state : ReceiveState) × IsEncoded state octets × (0 < length state.groups)

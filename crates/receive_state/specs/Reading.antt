-- Reading a receive state (Broadcast Audio Scan Service 1.0, section 3.2) field by field.
use Rattle.std.specs.Prelude.{ℕ, zero, suc, List, [], ◌∷◌, map, Option, Some, None, Result, Ok, Err, nat_lt, if◌then◌else◌}
use Rattle.bcast_base.specs.Layout.{reserved_from}
use Rattle.bcast_base.specs.Reading.{octet_in, octets_in, place_in}
use Rattle.bcast_base.specs.Subgroups.{Subgroup, subgroups_in}
use Rattle.receive_state.specs.declared.fault.StateFault.{StateFault}
use Rattle.receive_state.specs.declared.fault.StateFault.TheVariants as faults
use Rattle.receive_state.specs.declared.state.Encryption.{Encryption}
use Rattle.receive_state.specs.declared.state.Encryption.TheVariants as keys
use Rattle.receive_state.specs.declared.state.GroupState.{GroupState}
use Rattle.receive_state.specs.declared.state.ReceiveState.{ReceiveState}
use Rattle.receive_state.specs.Layout.{StateFields, fields, code_width}
use Rattle.bcast_base.specs.Tries.{◌>>=◌}
use Rattle.receive_state.specs.Steps.{field_in}

-- Source_ID, and what tells the source, and the octets behind it
unfoldable pub source_in : List ℕ → Result (StateFields × List ℕ) ℕ
source_in whole = do
  source ← field_in whole octet_in whole
  kind ← field_in whole octet_in source.1
  address ← field_in whole (octets_in 6) kind.1
  sid ← field_in whole octet_in address.1
  id ← field_in whole (octets_in 3) sid.1
  Ok (record { source_id = source.0; address_type = kind.0; address = address.0; sid = sid.0; broadcast_id = id.0; pa_sync_state = 0; encryption = 0; bad_code = []; groups = [] }, id.1)

-- all fields before the subgroups, their number, and the octets behind it
unfoldable pub head_in : List ℕ → Result (StateFields × ℕ × List ℕ) ℕ
head_in whole = do
  source ← source_in whole
  sync ← field_in whole octet_in source.1
  encryption ← field_in whole octet_in sync.1
  code ← field_in whole (octets_in (code_width encryption.0)) encryption.1
  count ← field_in whole octet_in code.1
  Ok (record source.0 { pa_sync_state = sync.0; encryption = encryption.0; bad_code = code.0 }, count.0, count.1)

abbrev pub group_end_in : List ℕ → List ℕ → Result (List ℕ) ℕ
group_end_in whole octets = do
  bits ← field_in whole (octets_in 4) octets
  count ← field_in whole octet_in bits.1
  metadata ← field_in whole (octets_in count.0) count.1
  Ok metadata.1

unfoldable pub end_in : List ℕ → ℕ → List ℕ → Result (List ℕ) ℕ
end_in whole zero octets = Ok octets
end_in whole (suc count) octets = do rest ← group_end_in whole octets; end_in whole count rest

abbrev pub subgroups_of : Option (List Subgroup × List ℕ) → List Subgroup
subgroups_of None = []
subgroups_of (Some read) = read.0

abbrev pub state_of_group : Subgroup → GroupState
state_of_group group = record { bis_sync_state = group.bits; metadata = group.metadata }

abbrev pub states_of : Option (List Subgroup × List ℕ) → Option (List GroupState)
states_of None = None
states_of (Some read) = Some (map state_of_group read.0)

abbrev pub groups_of : ℕ → List ℕ → Option (List GroupState)
groups_of count octets = states_of (subgroups_in count octets)

-- what a BIG_Encryption of at most 3 means
abbrev pub encryption_of : ℕ → List ℕ → Encryption
encryption_of zero code = keys.None
encryption_of (suc zero) code = keys.CodeRequired
encryption_of (suc (suc zero)) code = keys.Decrypting
encryption_of (suc (suc (suc number))) code = keys.BadCode code

abbrev pub state_from : StateFields → ReceiveState
state_from s = record {
  source_id = s.source_id;
  address_type = s.address_type;
  address = s.address;
  sid = s.sid;
  broadcast_id = s.broadcast_id;
  pa_sync_state = s.pa_sync_state;
  encryption = encryption_of s.encryption s.bad_code;
  groups = map state_of_group s.groups;
}

-- the place of the first reserved value before the subgroups
abbrev pub reserved_head : ℕ → ℕ → ℕ → ℕ → Option ℕ
reserved_head address_type sid pa_sync_state encryption =
    if nat_lt 1 address_type then Some 1
    else (if nat_lt 15 sid then Some 8 else (if nat_lt 4 pa_sync_state then Some 12 else (if nat_lt 3 encryption then Some 13 else None)))

abbrev pub first_fault : Option ℕ → ℕ → List ℕ → Option StateFault
first_fault (Some place) end rest = Some (faults.Rfu place)
first_fault None end [] = None
first_fault None end (octet ∷ rest) = Some (faults.Trailing end)

abbrev pub answered : ReceiveState → Option StateFault → Result ReceiveState StateFault
answered state (Some fault) = Err fault
answered state None = Ok state

abbrev pub behind : List ℕ → StateFields → Result (List ℕ) ℕ → Result ReceiveState StateFault
behind whole s (Err place) = Err (faults.Short place)
behind whole s (Ok rest) = answered (state_from s) (first_fault (reserved_from 0 (fields s)) (place_in whole rest) rest)

abbrev pub judged : List ℕ → Result (StateFields × ℕ × List ℕ) ℕ → Result ReceiveState StateFault
judged whole (Err place) = Err (faults.Short place)
judged whole (Ok head) = behind whole (record head.0 { groups = subgroups_of (subgroups_in head.1 head.2) }) (end_in whole head.1 head.2)

abbrev pub judged_of : List ℕ → Result ReceiveState StateFault
judged_of whole = judged whole (head_in whole)

abbrev pub lifted : Result ReceiveState StateFault → Result (Option ReceiveState) StateFault
lifted (Ok state) = Ok (Some state)
lifted (Err fault) = Err fault

abbrev pub state_of : List ℕ → Result (Option ReceiveState) StateFault
state_of [] = Ok None
state_of (octet ∷ rest) = lifted (judged_of (octet ∷ rest))

-- what a fault says of the octets: nothing, where memory ran out for a value
abbrev pub told : StateFault → Option StateFault
told faults.Memory = None
told fault = Some fault

-- The Broadcast Receive State (Broadcast Audio Scan Service 1.0, section 3.2): its fields one behind the other. The empty
-- value is no source.
use Rattle.std.specs.Prelude.{ℕ, ◌≡◌, ◌≤◌, ◌<◌, ◌^◌, List, [], ◌∷◌, ◌++◌, length, map, Option, Some, None, Bool, false, nat_lt, nat_le, ◌==◌, ◌&&◌, ◌||◌, not, if◌then◌else◌}
use Rattle.std.specs.List.{flat_map, list_all, AllByRecursion}
use Rattle.bcast_base.specs.Layout.{Field, free, unless, laid, NoneReserved}
use Rattle.bcast_base.specs.Encoding.{octet}
use Rattle.bcast_base.specs.Subgroups.{Subgroup, Fits, subgroup_fields, is_reserved}
use Rattle.receive_state.specs.declared.state.Encryption.{Encryption}
use Rattle.receive_state.specs.declared.state.Encryption.TheVariants as keys
use Rattle.receive_state.specs.declared.state.GroupState.{GroupState}
use Rattle.receive_state.specs.declared.state.ReceiveState.{ReceiveState}

-- the values of the fields, also of those that have a reserved one
pub record StateFields : Type 0 where
  pub source_id : ℕ
  pub address_type : ℕ
  pub address : List ℕ
  pub sid : ℕ
  pub broadcast_id : List ℕ
  pub pa_sync_state : ℕ
  pub encryption : ℕ
  pub bad_code : List ℕ
  pub groups : List Subgroup

abbrev pub prefix_fields : StateFields → ℕ → List Field
prefix_fields s count =
    free (octet s.source_id) ∷ unless (nat_lt 1 s.address_type) (octet s.address_type) ∷ free s.address ∷ unless (nat_lt 15 s.sid) (octet s.sid) ∷ free s.broadcast_id ∷
    unless (nat_lt 4 s.pa_sync_state) (octet s.pa_sync_state) ∷ unless (nat_lt 3 s.encryption) (octet s.encryption) ∷ free s.bad_code ∷ free (octet count) ∷ []

abbrev pub fields : StateFields → List Field
fields s = prefix_fields s (length s.groups) ++ flat_map subgroup_fields s.groups

-- a Bad_Code is told only behind a BIG_Encryption of 3
abbrev pub code_width : ℕ → ℕ
code_width encryption = if encryption == 3 then 16 else 0

-- each field has its width
pub record FieldsFit (s : StateFields) : Type 0 where
  pub address : length s.address ≡ 6
  pub broadcast_id : length s.broadcast_id ≡ 3
  pub bad_code : length s.bad_code ≡ code_width s.encryption
  pub few : length s.groups ≤ 255
  pub groups : AllByRecursion Fits s.groups

-- BIG_Encryption
abbrev pub number_of : Encryption → ℕ
number_of keys.None = 0
number_of keys.CodeRequired = 1
number_of keys.Decrypting = 2
number_of (keys.BadCode code) = 3

-- Bad_Code
abbrev pub code_of : Encryption → List ℕ
code_of (keys.BadCode code) = code
code_of _ = []

abbrev pub group_of : GroupState → Subgroup
group_of group = record { bits = group.bis_sync_state; metadata = group.metadata }

abbrev pub fields_of : ReceiveState → StateFields
fields_of state = record {
  source_id = state.source_id;
  address_type = state.address_type;
  address = state.address;
  sid = state.sid;
  broadcast_id = state.broadcast_id;
  pa_sync_state = state.pa_sync_state;
  encryption = number_of state.encryption;
  bad_code = code_of state.encryption;
  groups = map group_of state.groups;
}

abbrev pub encoding : ReceiveState → List ℕ
encoding state = laid (fields (fields_of state))

-- the octets are the state
pub record IsEncoded (state : ReceiveState) (octets : List ℕ) : Type 0 where
  pub widths : FieldsFit (fields_of state)
  pub values : NoneReserved (fields (fields_of state))
  pub encoded : octets ≡ encoding state

-- the octets are the value: a state, or no source
abbrev pub StateIs : Option ReceiveState → List ℕ → Type 0
StateIs None octets = octets ≡ []
StateIs (Some state) octets = IsEncoded state octets

-- what the types of its fields give every state
pub record HasTypes (state : ReceiveState) : Type 0 where
  pub address : length state.address ≡ 6
  pub broadcast_id : length state.broadcast_id ≡ 3
  pub bad_code : length (code_of state.encryption) ≡ code_width (number_of state.encryption)
  pub bits : AllByRecursion (λ group. group.bis_sync_state < 2 ^ 32) state.groups

-- a state that has octets: no value is reserved, and each count is one octet
pub record HasEncoding (state : ReceiveState) : Type 0 where
  pub few : length state.groups ≤ 255
  pub metadata : AllByRecursion (λ group. length group.metadata ≤ 255) state.groups
  pub values : NoneReserved (fields (fields_of state))

-- the same as a test
abbrev pub group_is_encoded : GroupState → Bool
group_is_encoded group = not (is_reserved group.bis_sync_state) && nat_le (length group.metadata) 255

abbrev pub is_encoded : ReceiveState → Bool
is_encoded state =
    if nat_lt 1 state.address_type || nat_lt 15 state.sid || nat_lt 4 state.pa_sync_state then false
    else (nat_le (length state.groups) 255 && list_all group_is_encoded state.groups)

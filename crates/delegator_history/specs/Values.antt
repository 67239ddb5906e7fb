-- The Broadcast Receive State of a slot (Broadcast Audio Scan Service 1.0, section 3.2), and its value. An empty slot has
-- the empty value.
use Rattle.std.specs.Prelude.{ℕ, ◌+◌, ◌<◌, ◌&&◌, Bool, List, [], ◌∷◌, Option, Some, None, get_or, option_map, if◌then◌else◌}
use Rattle.std.specs.List.{Any}
use Rattle.bass_operations.specs.declared.wishes.Wish.{Wish}
use Rattle.receive_state.specs.declared.state.Encryption.{Encryption}
use Rattle.receive_state.specs.declared.state.Encryption.TheVariants as keys
use Rattle.receive_state.specs.declared.state.GroupState.{GroupState}
use Rattle.receive_state.specs.declared.state.ReceiveState.{ReceiveState}
use Rattle.receive_state.specs.Layout.{encoding}
use Rattle.delegator_history.specs.Snapshots.{Entry, Place, Snapshot, is_on, is_on_group, entry_at}

-- how the sink stands to a slot: on its train or group, a Broadcast_Code required, and the streams taken of each subgroup
pub record Status : Type 0 where
  pub is_synced : Bool
  pub is_encrypted : Bool
  pub bits : List ℕ

abbrev pub status_of : Place → Bool → List ℕ → ℕ → Status
status_of place encrypted taken slot = record {
  is_synced = is_on place slot;
  is_encrypted = is_on place slot && encrypted;
  bits = if is_on_group place slot then taken else [];
}

-- the subgroups that are wanted, of which the first is the one at this place
abbrev pub groups_from : ℕ → List ℕ → List Wish → List GroupState
groups_from place bits [] = []
groups_from place bits (wish ∷ wishes) = record { bis_sync_state = get_or bits place 0; metadata = wish.metadata } ∷ groups_from (place + 1) bits wishes

abbrev pub encryption_of : Bool → Encryption
encryption_of is_encrypted = if is_encrypted then keys.CodeRequired else keys.None

-- PA_Sync_State is 2, synchronised, or 0, not synchronised
abbrev pub received : Status → Entry → ReceiveState
received status entry = record {
  source_id = entry.source.source_id;
  address_type = entry.source.address_type;
  address = entry.source.address;
  sid = entry.source.sid;
  broadcast_id = entry.source.broadcast_id;
  pa_sync_state = if status.is_synced then 2 else 0;
  encryption = encryption_of status.is_encrypted;
  groups = groups_from 0 status.bits entry.wanted.wishes;
}

abbrev pub state_at : Snapshot → ℕ → Option ReceiveState
state_at snapshot slot = option_map (received (status_of snapshot.place snapshot.encrypted snapshot.taken slot)) (entry_at snapshot.slots slot)

abbrev pub value : Option ReceiveState → List ℕ
value None = []
value (Some state) = encoding state

abbrev pub value_at : Snapshot → ℕ → List ℕ
value_at snapshot slot = value (state_at snapshot slot)

-- some bit of a stream is set
abbrev pub HasBit : ReceiveState → Type 0
HasBit state = Any (λ group. 0 < group.bis_sync_state) state.groups

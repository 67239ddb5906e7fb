-- A receive state as C sees it.
use Rattle.std.specs.Prelude.{ℕ, List, length, map, replicate}
use Rattle.receive_state.specs.declared.state.Encryption.{Encryption}
use Rattle.receive_state.specs.declared.state.Encryption.TheVariants as keys
use Rattle.receive_state.specs.declared.state.GroupState.{GroupState}
use Rattle.receive_state.specs.declared.state.ReceiveState.{ReceiveState}
use Rattle.layouts_c.specs.declared.state.AirState.{AirState}

-- BIG_Encryption, and Bad_Code, which is 0 where none is told
abbrev pub code_c : Encryption → ℕ × List ℕ
code_c keys.None = (0, replicate 16 0)
code_c keys.CodeRequired = (1, replicate 16 0)
code_c keys.Decrypting = (2, replicate 16 0)
code_c (keys.BadCode code) = (3, code)

abbrev pub state_c : ReceiveState → AirState
state_c state = record {
  subgroups = length state.groups;
  source_id = state.source_id;
  address_type = state.address_type;
  address = state.address;
  sid = state.sid;
  broadcast_id = state.broadcast_id;
  pa_sync_state = state.pa_sync_state;
  encryption = (code_c state.encryption).0;
  bad_code = (code_c state.encryption).1;
}

-- the BIS_Sync_State of each subgroup
abbrev pub bits_of : List GroupState → List ℕ
bits_of groups = map (λ group. group.bis_sync_state) groups

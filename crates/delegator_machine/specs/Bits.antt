-- Where set bits of streams stand (Broadcast Audio Scan Service 1.0, section 3.2).
use Rattle.std.specs.Prelude.{ℕ, ◌≡◌, Some}
use Rattle.delegator_history.specs.Snapshots.{Snapshot, on_group}
use Rattle.delegator_history.specs.Values.{state_at, HasBit}
use Rattle.receive_state.specs.declared.state.ReceiveState.{ReceiveState}

-- a set bit stands only in the slot whose group the sink is on
pub record BitsStand (snapshot : Snapshot) : Type 0 where
  pub only : (slot : ℕ) (state : ReceiveState) → state_at snapshot slot ≡ Some state → HasBit state → snapshot.place ≡ on_group (Some slot)

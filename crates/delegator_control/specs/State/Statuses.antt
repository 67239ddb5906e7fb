-- How a sink stands to a slot, as the code lends it.
use Rattle.std.specs.Prelude.{ℕ, List, map}
use Rattle.std.specs.List.{flat_map}
use Rattle.bass_operations.specs.declared.wishes.Wish.{Wish}
use Rattle.bcast_base.specs.Layout.{laid}
use Rattle.bcast_base.specs.Subgroups.{subgroup_fields}
use Rattle.receive_state.specs.Layout.{group_of}
use Rattle.delegator_history.specs.Snapshots.{Snapshot}
use Rattle.delegator_history.specs.Values as values
use Rattle.delegator_history.specs.Values.{groups_from, status_of}
use Rattle.delegator_control.specs.declared.values.Status.{Status}

abbrev pub status_seen : Status → values.Status
status_seen status = record { is_synced = status.is_synced; is_encrypted = status.is_encrypted; bits = status.bits.now }

-- how a sink that has this stands to a slot
abbrev pub status_at : ℕ → Snapshot → values.Status
status_at slot snapshot = status_of snapshot.place snapshot.encrypted snapshot.taken slot

-- the octets of the subgroups that are wanted, of which the first is the one at this place
abbrev pub groups_laid : ℕ → List ℕ → List Wish → List ℕ
groups_laid place bits wishes = laid (flat_map subgroup_fields (map group_of (groups_from place bits wishes)))

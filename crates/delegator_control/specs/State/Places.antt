-- The place of a sink, by its typed states.
use Rattle.std.specs.Prelude.{ℕ, ◌<◌, Bool, false, List, [], Option, Some, None}
use Rattle.std.specs.Option.{ForSome}
use Rattle.delegator_history.specs.Snapshots as snapshots
use Rattle.delegator_history.specs.Snapshots.{Snapshot, idle, on_train, on_group, slot_of}
use Rattle.delegator_history.specs.Steps.{place_left}
use Rattle.delegator_control.specs.declared.place.Move.{Move}
use Rattle.delegator_control.specs.declared.place.Move.TheVariants.{Stay, Off, OffGroup}
use Rattle.delegator_control.specs.declared.place.Place.{Place}
use Rattle.delegator_control.specs.declared.place.Place.TheVariants.{Idle, OnTrain, OnGroup}

abbrev pub place_of : Place → snapshots.Place
place_of (Idle sink) = idle
place_of (OnTrain on) = on_train on.slot
place_of (OnGroup on) = on_group on.slot

abbrev pub encrypted_of : Place → Bool
encrypted_of (Idle sink) = false
encrypted_of (OnTrain on) = on.encrypted
encrypted_of (OnGroup on) = on.encrypted

abbrev pub taken_of : Place → List ℕ
taken_of (Idle sink) = []
taken_of (OnTrain on) = []
taken_of (OnGroup on) = on.taken

-- a sink that has this, but stands there
abbrev pub standing : Place → Snapshot → Snapshot
standing place snapshot = record snapshot { place = place_of place; encrypted = encrypted_of place; taken = taken_of place }

-- the place that a change gives a sink that is there, where it gives one
abbrev pub place_by : snapshots.Place → Move → Option snapshots.Place
place_by place Stay = None
place_by place Off = Some idle
place_by place OffGroup = place_left place

-- the slot whose train or group the sink is on is one of its slots
abbrev pub IsWithin : Place → ℕ → Type 0
IsWithin place slots = ForSome (slot_of (place_of place)) (λ slot. slot < slots)

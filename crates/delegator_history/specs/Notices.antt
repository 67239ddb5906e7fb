-- Notifications (Broadcast Audio Scan Service 1.0, section 3.2): one for each change of a slot's value, with the whole
-- value, in order. A notification has at most the octets of the MTU but three.
use Rattle.std.specs.Prelude.{ℕ, ◌+◌, List, [], ◌∷◌, ◌++◌, length, drop, min, Option, Some, None, if◌then◌else◌}
use Rattle.std.specs.List.{flat_map, range_with_len}
use Rattle.std.specs.Str.{bytes_eq}
use Rattle.delegator_history.specs.declared.notice.Notice.{Notice}
use Rattle.delegator_history.specs.LastGiven.{last_given}
use Rattle.delegator_history.specs.Snapshots.{Snapshot}
use Rattle.delegator_history.specs.States.{Step, mtu_set, notified, snapshot_of}
use Rattle.delegator_history.specs.Trains.{Setup}
use Rattle.delegator_history.specs.Values.{value_at}
use Rattle.receive_state.specs.Cuts.{cut}

abbrev pub change : ℕ → List ℕ → List ℕ → List Notice
change slot before after = if bytes_eq before after then [] else record { slot = slot; value = after } ∷ []

abbrev pub changes : ℕ → Snapshot → Snapshot → List Notice
changes slots before after = flat_map (λ slot. change slot (value_at before slot) (value_at after slot)) (range_with_len 0 slots)

abbrev pub notices : Setup → List Step → List Notice
notices setup [] = []
notices setup (step ∷ earlier) = notices setup earlier ++ changes setup.slots (snapshot_of setup earlier) (snapshot_of setup (step ∷ earlier))

-- ---- how many were handed out

abbrev pub is_told : Step → ℕ
is_told notified = 1
is_told _ = 0

-- each time that one was asked for, while there were any
abbrev pub delivered : Setup → List Step → ℕ
delivered setup [] = 0
delivered setup (step ∷ earlier) = min (delivered setup earlier + is_told step) (length (notices setup earlier))

-- the notices that wait
abbrev pub waiting : Setup → List Step → List Notice
waiting setup steps = drop (delivered setup steps) (notices setup steps)

-- ---- the MTU

abbrev pub mtu_by : Step → Option ℕ
mtu_by (mtu_set mtu) = Some mtu
mtu_by _ = None

-- the MTU that was set last
abbrev pub mtu_in : List Step → Option ℕ
mtu_in steps = last_given mtu_by steps

-- what is handed out of a notice
abbrev pub handed_out : Option ℕ → Notice → Notice
handed_out mtu notice = record notice { value = cut mtu notice.value }

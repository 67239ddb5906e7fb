-- What a Scan Delegator keeps, what each step makes of it, and the steps that it stands for.
use Rattle.std.specs.Prelude.{ℕ, ◌≡◌, ◌++◌, List, drop, Option, Some, None, vec_len}
use Rattle.delegator_history.specs.declared.notice.Notice.{Notice}
use Rattle.delegator_history.specs.Notices.{changes, waiting, mtu_in}
use Rattle.delegator_history.specs.Snapshots as snapshots
use Rattle.delegator_history.specs.Snapshots.{Entry, Snapshot}
use Rattle.delegator_history.specs.States.{Step, mtu_set, notified, done_by, snapshot_of}
use Rattle.delegator_history.specs.Steps.{Done, after, placed}
use Rattle.delegator_history.specs.Trains.{Setup}
use Rattle.pacs_records.specs.declared.capability.Capability.{Capability}
use Rattle.delegator_control.specs.declared.place.Place.{Place}
use Rattle.delegator_control.specs.declared.scan_delegator.ScanDelegator.{ScanDelegator}
use Rattle.delegator_control.specs.State.Places.{place_of, encrypted_of, taken_of}

pub record Machine : Type 0 where
  pub setup : Setup
  pub snapshot : Snapshot
  pub waiting : List Notice
  pub mtu : Option ℕ

abbrev pub snapshot_with : List (Option Entry) → Place → Capability → Snapshot
snapshot_with slots place capability =
    record { slots = slots; place = place_of place; encrypted = encrypted_of place; taken = taken_of place; capability = capability }

abbrev pub machine : ScanDelegator → Machine
machine d = record {
  setup = record { streams = d.streams; slots = vec_len d.slots; horizon = d.limits.horizon };
  snapshot = snapshot_with d.slots.items d.place d.capability;
  waiting = d.waiting.items;
  mtu = d.mtu;
}

-- what is done changes what the sink has, and each slot whose value changes gets a notice
abbrev pub moved : Done → Machine → Machine
moved done m = record m { snapshot = after done m.snapshot; waiting = m.waiting ++ changes m.setup.slots m.snapshot (after done m.snapshot) }

-- a change of the place alone
abbrev pub gone : Option snapshots.Place → Machine → Machine
gone place m = record m { snapshot = placed place None None m.snapshot; waiting = m.waiting ++ changes m.setup.slots m.snapshot (placed place None None m.snapshot) }

abbrev pub step_on : Step → Machine → Machine
step_on notified m = record m { waiting = drop 1 m.waiting }
step_on (mtu_set mtu) m = record m { mtu = Some mtu }
step_on step m = moved (done_by m.setup m.snapshot step) m

-- the machine is what these steps make of a new one, by the definitions that look back
pub record StandsFor (steps : List Step) (m : Machine) : Type 0 where
  pub snapshot : m.snapshot ≡ snapshot_of m.setup steps
  pub waiting : m.waiting ≡ waiting m.setup steps
  pub mtu : m.mtu ≡ mtu_in steps

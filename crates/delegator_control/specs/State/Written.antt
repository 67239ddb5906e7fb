-- The value that a slot has once it is filled and the place is changed.
use Rattle.std.specs.Prelude.{ℕ, List, None}
use Rattle.receive_state.specs.Layout.{encoding}
use Rattle.delegator_history.specs.Snapshots.{Entry}
use Rattle.delegator_history.specs.Steps.{placed}
use Rattle.delegator_history.specs.Values.{received}
use Rattle.delegator_control.specs.declared.place.Move.{Move}
use Rattle.delegator_control.specs.declared.scan_delegator.ScanDelegator.{ScanDelegator}
use Rattle.delegator_control.specs.State.Machines.{machine}
use Rattle.delegator_control.specs.State.Places.{place_by, place_of}
use Rattle.delegator_control.specs.State.Statuses.{status_at}

abbrev pub written_value : ℕ → Entry → Move → ScanDelegator → List ℕ
written_value slot entry moves d = encoding (received (status_at slot (placed (place_by (place_of d.place) moves) None None (machine d).snapshot)) entry)

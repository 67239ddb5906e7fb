-- What a Scan Delegator keeps, and the calls that it stands for.
use Rattle.std.specs.Prelude.{◌≡◌, List, Option}
use Rattle.delegator_history.specs.Trains.{Settings, Setup}
use Rattle.group_sink.specs.State.Sinks.{OnGroup, StandsFor as SinkStands}
use Rattle.delegator_control.specs.State.Machines.{Machine, StandsFor as ScanStands}
use Rattle.delegator_machine.specs.Calls.{Call, steps_of}
use Rattle.delegator_machine.specs.Groups.{group_calls}

-- the control half, and the receivers of the group that it is on
pub record Halves : Type 0 where
  pub scan : Machine
  pub sink : Option OnGroup

-- what was fixed as it was made, and the MTU that was set last
abbrev pub settings_of : Halves → Settings
settings_of delegator = record { setup = delegator.scan.setup; mtu = delegator.scan.mtu }

-- each half stands for what it took
pub record StandsFor (setup : Setup) (calls : List Call) (delegator : Halves) : Type 0 where
  pub setup_is : delegator.scan.setup ≡ setup
  pub steps : ScanStands (steps_of calls) delegator.scan
  pub groups : SinkStands (group_calls setup calls) delegator.sink

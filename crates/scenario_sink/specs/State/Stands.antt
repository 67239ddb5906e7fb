-- What a sink with its links is after its calls.
use Rattle.std.specs.Prelude.{ℕ, ◌≡◌, ◌∷◌, true, [], List, Option, Some, None}
use Rattle.delegator_machine.specs.Calls as machine
use Rattle.delegator_machine.specs.Groups.{group_calls, big_sync_given, with_step}
use Rattle.delegator_machine.specs.State.Halves.{Halves, StandsFor, settings_of}
use Rattle.delegator_history.specs.Notices.{changes}
use Rattle.delegator_history.specs.Snapshots.{Snapshot}
use Rattle.delegator_history.specs.States.{Step}
use Rattle.delegator_history.specs.Trains.{Setup}
use Rattle.sync_reference.specs.BigSync.{BigSync}
use Rattle.sink_history.specs.Calls.{Call, is_joined, step_by, steps_of, writes_waiting}
use Rattle.sink_history.specs.Links.{acts_of}
use Rattle.sink_history.specs.Octets.{AreOctets}
use Rattle.sink_history.specs.Steps.{IsStep}
use Rattle.multi_assist.specs.State.Links.{link_at, mtu_of, slots_of}
use Rattle.multi_assist.specs.State.Places.{Linked}
use Rattle.multi_assist.specs.declared.links.Links.{Links}
use Rattle.sink_history.specs.Output.{snapshot_in}
use Rattle.scenario_sink.specs.declared.sink.LinkedSink.{LinkedSink}
use Rattle.scenario_sink.specs.SinkHistory.{SinkHistory}
use Rattle.scenario_sink.specs.State.Links.{OnLink}
use Rattle.scenario_sink.specs.State.Untold.{untold}

-- the delegator took the steps of the sink's history, and more that asked for notices, and its receivers what they took; it has the
-- settings of the sink, and the links have its slots and its MTU; link 0 is never left
pub record Took (history : SinkHistory) (delegator : Halves) (links : Links) : Type 0 where
  pub taken : List machine.Call
  pub stands : StandsFor history.made.setup taken delegator
  pub own : untold (machine.steps_of taken) ≡ steps_of history.calls_made
  pub received_is : group_calls history.made.setup taken ≡ history.received
  pub settings_is : settings_of delegator ≡ history.made
  pub links_slots : slots_of links ≡ history.made.setup.slots
  pub links_mtu : mtu_of links ≡ history.made.mtu
  pub octets : AreOctets history.calls_made
  pub first : is_joined 0 history.calls_made ≡ true

-- a link is as the sink's history leaves it
abbrev pub LinkIs : ℕ → SinkHistory → Option Linked → Type 0
LinkIs link history on =
    OnLink history.made.setup.slots history.made.mtu (is_joined link history.calls_made) (acts_of history.made.setup history.made.mtu link history.calls_made) (writes_waiting link history.calls_made) on

-- no notice waits at the delegator, and each link is as the sink's history leaves it
pub record Stands (history : SinkHistory) (delegator : Halves) (links : Links) : Type 0 where
  pub took : Took history delegator links
  pub none_waits : delegator.scan.waiting ≡ []
  pub each : (link : ℕ) → LinkIs link history (link_at links link)

-- a sink is what its past makes of it, and of the source that this says
pub record IsSink (history : SinkHistory) (living : LinkedSink) : Type 0 where
  pub stands : Stands history living.delegator living.links
  pub source_is : living.source ≡ history.source

-- ---- a call more

-- the group that a step of a delegator puts the sink on
abbrev pub given : Setup → Snapshot → Option Step → Option BigSync
given setup snapshot None = None
given setup snapshot (Some step) = big_sync_given setup snapshot step

abbrev pub after_call : Call → SinkHistory → SinkHistory
after_call call history = record {
  made = history.made;
  source = history.source;
  calls_made = call ∷ history.calls_made;
  received = with_step (given history.made.setup (snapshot_in history.made history.calls_made) (step_by call history.calls_made)) (snapshot_in history.made history.calls_made)
      (snapshot_in history.made (call ∷ history.calls_made)) history.received;
}

-- the delegator took a step, of which the notices still wait there; where the step is a write that was served, the write is taken
-- off its link
pub record HasStepped (call : Call) (history : SinkHistory) (delegator : Halves) (links : Links) : Type 0 where
  pub took : Took (after_call call history) delegator links
  pub is_step : IsStep call
  pub waiting : delegator.scan.waiting ≡ changes history.made.setup.slots (snapshot_in history.made history.calls_made) (snapshot_in history.made (call ∷ history.calls_made))
  pub each : (link : ℕ) → OnLink history.made.setup.slots history.made.mtu (is_joined link history.calls_made) (acts_of history.made.setup history.made.mtu link history.calls_made)
      (writes_waiting link (call ∷ history.calls_made)) (link_at links link)

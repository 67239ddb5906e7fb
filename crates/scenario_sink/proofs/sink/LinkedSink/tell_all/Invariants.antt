use Rattle.scenario_sink.proofs.Prelude.{◌≡◌, true, is_joined, label_of, SinkHistory, IsSink}
use Rattle.scenario_sink.proofs.Draining.{Repeats, telling}
use Rattle.scenario_sink.proofs.sink.LinkedSink.tell_all.Given as goal

abbrev pub invariant-notices : goal.invariant-notices
invariant-notices l = (history : SinkHistory) → IsSink history l.fn.self → is_joined l.link history.calls_made ≡ true
    → Repeats history l.link (telling (label_of l.label) history.made l.link) l.counter l.fn.text l.text l.self

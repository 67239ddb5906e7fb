use Rattle.scenario_sink.proofs.Prelude.{◌≡◌, ◌≤◌, ◌++◌, concat, flat_map, range_with_len, slot_lines, SinkHistory, IsSink}
use Rattle.scenario_sink.proofs.sink.LinkedSink.show_slots.Given as goal

abbrev pub invariant-each : goal.invariant-each
invariant-each l = record {
  slots : l.self.slots ≡ l.fn.self.slots;
  within : l.slot ≤ l.fn.self.slots;
  shown : (history : SinkHistory) → IsSink history l.fn.self → IsSink history l.self × (l.text ≡ l.fn.text ++ concat (flat_map (slot_lines l.sink history) (range_with_len 0 l.slot)));
}

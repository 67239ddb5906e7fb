use Rattle.scenario_sink.proofs.Prelude.{◌≡◌, ◌≤◌, ◌++◌, ◌∷◌, [], true, map, concat, range_with_len, codes, decimal, is_joined, viewed, value_line, SinkHistory, IsSink}
use Rattle.scenario_sink.proofs.sink.LinkedSink.show_views.Given as goal

abbrev pub invariant-each : goal.invariant-each
invariant-each l = record {
  slots : l.self.slots ≡ l.fn.self.slots;
  within : l.slot ≤ l.fn.self.slots;
  shown : (history : SinkHistory) → IsSink history l.fn.self → is_joined l.link history.calls_made ≡ true → IsSink history l.self
      × (l.text ≡ l.fn.text ++ concat (map (λ slot. value_line (codes "aview") (decimal l.sink ∷ decimal l.link ∷ []) (viewed history.made l.link history.calls_made slot)) (range_with_len 0 l.slot)));
}

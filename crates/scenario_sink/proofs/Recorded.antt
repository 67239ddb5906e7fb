-- A record of capabilities that finds room, or none.
use Rattle.scenario_sink.proofs.Prelude.{ℕ, ◌≡◌, ◌≤◌, ◌<◌, None, Some, ap, nat_lt, le-ltb, lt-ltb, greatest_value, refuse_if, RecordsTooLong}

pub has_room : (count : ℕ) → count ≤ greatest_value → refuse_if (nat_lt greatest_value count) RecordsTooLong ≡ None
has_room count fits = ap (λ b. refuse_if b RecordsTooLong) (le-ltb greatest_value count fits)

pub no_room : (count : ℕ) → greatest_value < count → refuse_if (nat_lt greatest_value count) RecordsTooLong ≡ Some RecordsTooLong
no_room count history = ap (λ b. refuse_if b RecordsTooLong) (lt-ltb greatest_value count history)

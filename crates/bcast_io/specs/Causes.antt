-- What a sink's refusal says of its count of faults. Sinks and their counts are this project's own.
use Rattle.std.specs.Prelude.{ℕ, ◌≡◌}
use Rattle.bcast_base.specs.Counts.{Rose}
use Rattle.bcast_io.specs.declared.sink.SinkFault.{SinkFault}
use Rattle.bcast_io.specs.declared.sink.SinkFault.TheVariants.{Failed, Memory}

-- Failed comes only where the count rose or stands at its last value, and Memory leaves it
abbrev pub SinkCause : ℕ → ℕ → SinkFault → Type 0
SinkCause before now Failed = Rose before now
SinkCause before now Memory = now ≡ before

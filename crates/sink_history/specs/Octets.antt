-- What is written to a control point is octets (Broadcast Audio Scan Service 1.0, section 3.1).
use Rattle.std.specs.Prelude.{List}
use Rattle.std.specs.List.{AllByRecursion}
use Rattle.bcast_base.specs.Encoding.{IsOctets}
use Rattle.delegator_history.specs.States.{Step, written}
use Rattle.sink_history.specs.Calls.{Call, stepped, asked}

abbrev pub IsWritten : Step → Type 0
IsWritten (written octets) = IsOctets octets
IsWritten _ = Unit {0}

abbrev pub IsAsked : Call → Type 0
IsAsked (stepped step) = IsWritten step
IsAsked (asked link octets) = IsOctets octets
IsAsked _ = Unit {0}

abbrev pub AreOctets : List Call → Type 0
AreOctets calls = AllByRecursion IsAsked calls

-- The run that a buffer holds.
use Rattle.std.specs.Prelude.{ℕ, List, take, Option}
use Rattle.std.specs.Option.{option_map}
use Rattle.isoal_framed.specs.Units.{Run}
use Rattle.isoal_framed.specs.declared.undecided.UndecidedRun.{UndecidedRun}
use Rattle.isoal_framed.specs.declared.undecided.Started.{Started}

-- the run whose octets stand at the front of the buffer
abbrev pub run_from : List ℕ → Started → Run
run_from octets started = record { time = started.time; octets = take started.count octets }

abbrev pub run_in : UndecidedRun → Option Run
run_in undecided = option_map (run_from undecided.octets.items) undecided.started

-- Calls of which those with listed numbers fail, counted from 1. Sources and sinks that fail on purpose are this project's
-- own.
use Rattle.std.specs.Prelude.{ℕ, ◌+◌, ◌^◌, ◌<◌, List, Contains}
use Rattle.bcast_base.specs.Counts.{counted}

pub record Script : Type 0 where
  -- the numbers of the calls that fail
  pub failing : List ℕ
  -- the calls so far, and those of them that failed, each at most 2^64 - 1
  pub calls : ℕ
  pub faults : ℕ

-- the next call is listed; one past number 2^64 - 1 is not
abbrev pub FailsNext : Script → Type 0
FailsNext s = (s.calls + 1 < 2 ^ 64) × Contains s.failing (s.calls + 1)

-- new is old after one more call, which failed or not
abbrev pub after_pass : Script → Script
after_pass s = record s { calls = counted s.calls }

abbrev pub after_fail : Script → Script
after_fail s = record s { calls = counted s.calls; faults = counted s.faults }

-- A tally that fails on purpose, at calls that are listed by their numbers. Tallies are this project's own.
use Rattle.std.specs.Prelude.{ℕ, ◌+◌, ◌⊎◌, List, Contains, Result, Ok, Err}
use Rattle.unit_outlets.specs.Account.{Account, Fits}
use Rattle.unit_outlets.specs.declared.fault.OutletFault.{OutletFault}
use Rattle.unit_outlets.specs.declared.fault.OutletFault.TheVariants.{Failed, Memory}

pub record Failing : Type 0 where
  pub account : Account
  pub calls : ℕ  -- the calls so far, up to the last number that 64 bits hold
  pub failing : List ℕ  -- the numbers of the calls that fail, from 1

-- the call fails exactly where it is listed or a sum has no room, and never wants memory
abbrev pub FailsAsListed : List ℕ → Failing → Result (Unit {0}) OutletFault → Type 0
FailsAsListed unit old (Ok _) = ¬ Contains old.failing (old.calls + 1)
FailsAsListed unit old (Err Failed) = Contains old.failing (old.calls + 1) ⊎ (¬ Fits unit old.account)
FailsAsListed unit old (Err Memory) = ⊥

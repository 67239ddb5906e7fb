-- A set that gets the streams one behind the other.
use Rattle.std.proofs.Common.{◌≤◌, ◌<◌, ◌↔◌, ℕ, Bool, IsTrue}
use Rattle.bcast_base.specs.Bis.{Has}

-- of the streams below n the set has those that are named
abbrev pub SoFar : (ℕ → Bool) → (set n : ℕ) → Type 0
SoFar named set n = (bis : ℕ) → 1 ≤ bis → Has set bis ↔ ((bis < n) × IsTrue (named bis))

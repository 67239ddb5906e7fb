-- Counts of faults and of wants of memory, which never fall and stop at 2^64 - 1. They are this project's own.
use Rattle.std.specs.Prelude.{ℕ, ◌+◌, ◌-◌, ◌^◌, ◌≤◌, min}

abbrev pub counted : ℕ → ℕ
counted n = min (n + 1) (2 ^ 64 - 1)

-- the count rose, or stands at its last value; it didn't fall
abbrev pub Rose : ℕ → ℕ → Type 0
Rose before now = (counted before ≤ now) × (before ≤ now)

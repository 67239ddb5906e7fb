-- Looking through the subgroups of an operation (Broadcast Audio Scan Service 1.0, section 3.1.1.4) where they lie.
use Rattle.std.specs.Prelude.{ℕ, zero, suc, ◌+◌, List, Option, Some, None, nat_lt, if◌then◌else◌}
use Rattle.bcast_base.specs.Steps.{◌>>=◌}
use Rattle.bcast_base.specs.Subgroups.{subgroup_in}
use Rattle.bass_operations.specs.Twice.{has_bit}

abbrev pub or_zero : Option ℕ → ℕ
or_zero None = 0
or_zero (Some n) = n

-- in how many of so many subgroups the stream is named
unfoldable pub named_in : ℕ → ℕ → List ℕ → ℕ
named_in bis zero octets = 0
named_in bis (suc count) octets = or_zero (do
  first ← subgroup_in octets
  Some ((if has_bit bis first.0.bits then 1 else 0) + named_in bis count first.1))

-- the first of so many streams from this one on that stands in two of them
unfoldable pub twice_in : ℕ → ℕ → ℕ → List ℕ → Option ℕ
twice_in zero bis count octets = None
twice_in (suc others) bis count octets = if nat_lt 1 (named_in bis count octets) then Some bis else twice_in others (bis + 1) count octets

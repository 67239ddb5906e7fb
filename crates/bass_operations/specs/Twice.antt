-- Streams that two subgroups of one operation want (Broadcast Audio Scan Service 1.0, section 3.1.1.4). A BIS_Sync of
-- 0xFFFFFFFF is no preference and names no stream.
use Rattle.std.specs.Prelude.{ℕ, zero, suc, ◌-◌, ◌+◌, ◌<◌, ◌≤◌, List, Option, Some, None, Bool, nat_lt, ◌==◌, ◌&&◌, not, count_by, if◌then◌else◌}
use Rattle.std.specs.Int.{bit_at}
use Rattle.bcast_base.specs.Subgroups.{all_bits}
use Rattle.bass_operations.specs.declared.wishes.Wish.{Wish}

-- the bit of the stream is set; in 0xFFFFFFFF, no preference, none is
abbrev pub has_bit : ℕ → ℕ → Bool
has_bit bis bits = (bit_at bits (bis - 1) == 1) && not (bits == all_bits)

abbrev pub times_named : ℕ → List Wish → ℕ
times_named bis wishes = count_by (λ wish. has_bit bis wish.bis_sync) wishes

-- the lowest stream that stands in two subgroups
pub record IsLowestTwice (bis : ℕ) (wishes : List Wish) : Type 0 where
  pub least : 1 ≤ bis
  pub greatest : bis ≤ 31
  pub twice : 2 ≤ times_named bis wishes
  pub lowest : (other : ℕ) → 1 ≤ other → other < bis → times_named other wishes < 2

-- no stream stands in two subgroups
abbrev pub NoneTwice : List Wish → Type 0
NoneTwice wishes = (bis : ℕ) → 1 ≤ bis → bis ≤ 31 → times_named bis wishes < 2

-- the first of so many streams from this one on that stands in two subgroups
unfoldable pub twice_from : ℕ → ℕ → List Wish → Option ℕ
twice_from zero bis wishes = None
twice_from (suc others) bis wishes = if nat_lt 1 (times_named bis wishes) then Some bis else twice_from others (bis + 1) wishes

abbrev pub twice_of : List Wish → Option ℕ
twice_of wishes = twice_from 31 1 wishes

-- The payload numbers that a table gives are those of the definition.
use Rattle.group_sink.proofs.Prelude.{ℕ, ◌≡◌, ◌<◌, ◌≤◌, ◌+◌, ◌*◌, ◌%◌, ◌/◌, ◌^◌, Bool, false, ltb, List, length, set, get_or, get_or-set_other, get_or-set_same, Some, None, cond, arith, lt-ltb, le-ltb, cond-true, cond-false, and_from, cases_lt, ahead_of, payload_number, number_of, mul-le, BigInfo}
use Rattle.std.proofs.Math.Nat.{add-mul}
use Rattle.std.specs.Prelude.{◌&&◌}

-- the last number of a window is not far above the first of its event
pub offset_fits : (ahead bn rest : ℕ) → ahead ≤ 31 → bn < 8 → rest < bn → ahead * bn + rest < 256
offset_fits ahead bn rest near few below = grind (arith, mul-le)

-- the number of a subevent of event 0
pub first_number : (info : BigInfo) (subevent ahead bn rest : ℕ) → ahead ≡ ahead_of info (subevent / info.bn) → bn ≡ info.bn
    → rest ≡ subevent % info.bn → ahead * bn + rest ≡ payload_number info 0 subevent
first_number info subevent ahead bn rest is_ahead is_bn is_rest = grind (arith, ahead_of)

-- the next entry of a table of the values of a function
pub entry_set : (f : ℕ → ℕ) (xs : List ℕ) (n at value : ℕ) → n < length xs → at ≡ n → value ≡ f n
    → ((s : ℕ) → s < n → get_or xs s 0 ≡ f s) → (s : ℕ) → s < n + 1 → get_or (set xs at value) s 0 ≡ f s
entry_set f xs n at value long is_at is_value done s below = grind (arith, cases_lt, get_or-set_other, get_or-set_same)

and_false : (a : Bool) → (a && false) ≡ false
and_false a = grind arith

pub no_subevent : (info : BigInfo) (event subevent : ℕ) → info.nse ≤ subevent → None ≡ number_of info event subevent
no_subevent info event subevent past = grind (arith, cond, ltb, payload_number, le-ltb)

-- above the first number of its event, the number is the same in each event
pub number_at : (info : BigInfo) (event subevent offset bn : ℕ) → offset ≡ payload_number info 0 subevent → bn ≡ info.bn
    → event * bn + offset ≡ payload_number info event subevent
number_at info event subevent offset bn is same = grind (arith, ahead_of, add-mul)

pub some_number : (info : BigInfo) (event subevent number : ℕ) → number ≡ payload_number info event subevent → subevent < info.nse
    → number < 2 ^ 39 → Some number ≡ number_of info event subevent
some_number info event subevent number is below small = grind (arith, cond-true, ltb, payload_number, and_from, lt-ltb)

pub no_number : (info : BigInfo) (event subevent number : ℕ) → number ≡ payload_number info event subevent → 2 ^ 39 ≤ number
    → None ≡ number_of info event subevent
no_number info event subevent number is past = grind (arith, cond-false, ltb, payload_number, le-ltb, and_false)

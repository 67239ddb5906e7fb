-- The sums of the boxes in the transcript.
use Rattle.scenario_sinks.proofs.Prelude.{◌≡◌, ℕ, zero, suc, ◌+◌, ◌<◌, List, [], ◌∷◌, ◌++◌, length, map, get_or, sym, ◌∙◌, ap, arith, append_assoc, Option, Result, OnOk, flat_map, range_with_len, flat_map-append, append-nil, on_ok_weaker, Account, account_at, most_sinks, sum_at, sum_where, sums_where}
use Rattle.transcript_text.specs.Lines.{sum_line}
use Rattle.scenario_history.specs.Boxes.{sink_numbers}
use Rattle.scenario_sinks.proofs.Ranges.{range_append}

pub account_mapped : {A : Type 0} (f : A → Account) (xs : List A) (i : ℕ) (x : A) → i < length xs → x ≡ get_or xs i x → account_at (map f xs) i ≡ f x
account_mapped f [] i x within is = absurd (omega arith)
account_mapped f (y ∷ xs) zero x within is = ap f (sym is)
account_mapped f (y ∷ xs) (suc i) x within is = account_mapped f xs i x (omega arith) is

pub sum_put : {E : Type 0} (r : Result (Unit {0}) E) (text told : List ℕ) (sink place units octets : ℕ) (accounts : List Account) (account : Account)
    → account_at accounts place ≡ account → units ≡ account.units → octets ≡ account.octets
    → OnOk r (told ≡ text ++ sum_line sink units octets) → OnOk r (told ≡ text ++ sum_at accounts sink place)
sum_put r text told sink place units octets accounts account at u o h = grind (arith, on_ok_weaker, account_at)

-- ---- the sums of one sink after the other

pub sums_all : (accounts : List Account) (boxes : ℕ → Option ℕ) (n : ℕ) (text told : List ℕ) → n ≡ most_sinks
    → told ≡ text ++ sums_where accounts boxes (range_with_len 0 n) → told ≡ text ++ sums_where accounts boxes sink_numbers
unfolding sink_numbers
sums_all accounts boxes n text told e h = h ∙ ap (λ k. text ++ sums_where accounts boxes (range_with_len 0 k)) e

pub sums_next : (accounts : List Account) (boxes : ℕ → Option ℕ) (n : ℕ) (text mid told : List ℕ) → mid ≡ text ++ sums_where accounts boxes (range_with_len 0 n)
    → told ≡ mid ++ sum_where accounts n (boxes n) → told ≡ text ++ sums_where accounts boxes (range_with_len 0 (n + 1))
sums_next accounts boxes n text mid told m h =
    grind (arith, sum_where, append_assoc, sums_where, range_with_len, flat_map, range_append, flat_map-append, append-nil)

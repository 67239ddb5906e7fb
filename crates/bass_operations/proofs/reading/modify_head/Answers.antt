use Rattle.bass_operations.proofs.Prelude.{◌≡◌, ℕ, ◌+◌, ◌-◌, ◌<◌, ◌≤◌, List, [], ◌∷◌, length, get_or, take, drop, Some, None, refl, sym, ap, arith, take_all, le-ltb, number_in, ◌*◌, sum_from}
use Rattle.bass_operations.specs.Reading.{modify_head_in}
use Rattle.bass_operations.proofs.reading.modify_head.Goals as goal

too_short : (from : List ℕ) → length from < 5 → modify_head_in from ≡ None
unfolding modify_head_in
too_short (id ∷ sync ∷ low ∷ high ∷ count ∷ rest) short = absurd (omega (arith, short))
too_short from short = refl

is_whole : (from : List ℕ) (interval : ℕ) → 5 ≤ length from → interval ≡ get_or from 2 0 + 256 * get_or from 3 0
    → modify_head_in from ≡ Some (record { source_id = get_or from 0 0; pa_sync = get_or from 1 0; pa_interval = interval; wishes = [] }, get_or from 4 0, take (length from - 5) (drop 5 from))
unfolding modify_head_in
is_whole (id ∷ sync ∷ low ∷ high ∷ count ∷ rest) interval long is =
    let sum : interval ≡ low + 256 * high = is in
    let number : sum_from 0 (low ∷ high ∷ []) ≡ interval = omega (arith, sum) in
    let two : number_in 2 (low ∷ high ∷ count ∷ rest) ≡ Some (interval, count ∷ rest) =
    rw (le-ltb (length (low ∷ high ∷ count ∷ rest)) 2 (omega arith)) (ap (λ (n : ℕ). Some (n, count ∷ rest)) number) in
    let all : take (length (id ∷ sync ∷ low ∷ high ∷ count ∷ rest) - 5) rest ≡ rest = take_all (length (id ∷ sync ∷ low ∷ high ∷ count ∷ rest) - 5) rest (omega arith) in
    rw (two) (ap (λ (others : List ℕ). Some (record { source_id = id; pa_sync = sync; pa_interval = interval; wishes = [] }, count, others)) (sym all))
is_whole from interval long is = absurd (omega (arith, long))

pub returns-in_default : goal.returns-in_default
returns-in_default c = too_short c.args.from.now c.in_default.len_below

pub returns : goal.returns
returns c =
    rw c.new.ensures (is_whole c.args.from.now (c.from.result + 256 * c.from-2.result) c.in-len5-up.len_at_least (omega (arith, c.from.ensures, c.from-2.ensures)))

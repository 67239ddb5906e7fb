use Rattle.bass_operations.proofs.Prelude.{◌≡◌, ℕ, ◌+◌, ◌-◌, ◌<◌, ◌≤◌, List, [], ◌∷◌, length, get_or, take, drop, Some, None, refl, sym, ap, arith, take_all, le-ltb, number_in, octets_in, ◌*◌, sum_from}
use Rattle.bass_operations.specs.Reading.{add_head_in}
use Rattle.bass_operations.proofs.Heads.{octets_again_at}
use Rattle.bass_operations.proofs.reading.add_head.Goals as goal

too_short : (from : List ℕ) → length from < 15 → add_head_in from ≡ None
unfolding add_head_in
too_short (t ∷ a ∷ b ∷ c ∷ d ∷ e ∷ f ∷ sid ∷ g ∷ h ∷ i ∷ sync ∷ low ∷ high ∷ count ∷ rest) short = absurd (omega (arith, short))
too_short from short = refl

is_whole : (from : List ℕ) (interval : ℕ) → 15 ≤ length from → interval ≡ get_or from 12 0 + 256 * get_or from 13 0
    → add_head_in from ≡ Some (record { address_type = get_or from 0 0; address = get_or from 1 0 ∷ get_or from 2 0 ∷ get_or from 3 0 ∷ get_or from 4 0 ∷ get_or from 5 0 ∷ get_or from 6 0 ∷ []; sid = get_or from 7 0; broadcast_id = get_or from 8 0 ∷ get_or from 9 0 ∷ get_or from 10 0 ∷ []; pa_sync = get_or from 11 0; pa_interval = interval; wishes = [] }, get_or from 14 0, take (length from - 15) (drop 15 from))
unfolding add_head_in
is_whole (t ∷ a ∷ b ∷ c ∷ d ∷ e ∷ f ∷ sid ∷ g ∷ h ∷ i ∷ sync ∷ low ∷ high ∷ count ∷ rest) interval long is =
    let sum : interval ≡ low + 256 * high = is in
    let number : sum_from 0 (low ∷ high ∷ []) ≡ interval = omega (arith, sum) in
    let two : number_in 2 (low ∷ high ∷ count ∷ rest) ≡ Some (interval, count ∷ rest) =
    rw (le-ltb (length (low ∷ high ∷ count ∷ rest)) 2 (omega arith)) (ap (λ (n : ℕ). Some (n, count ∷ rest)) number) in
    let six : octets_in 6 (a ∷ b ∷ c ∷ d ∷ e ∷ f ∷ sid ∷ g ∷ h ∷ i ∷ sync ∷ low ∷ high ∷ count ∷ rest) ≡ Some (a ∷ b ∷ c ∷ d ∷ e ∷ f ∷ [], sid ∷ g ∷ h ∷ i ∷ sync ∷ low ∷ high ∷ count ∷ rest) =
    octets_again_at 6 (a ∷ b ∷ c ∷ d ∷ e ∷ f ∷ []) (sid ∷ g ∷ h ∷ i ∷ sync ∷ low ∷ high ∷ count ∷ rest) refl in
    let three : octets_in 3 (g ∷ h ∷ i ∷ sync ∷ low ∷ high ∷ count ∷ rest) ≡ Some (g ∷ h ∷ i ∷ [], sync ∷ low ∷ high ∷ count ∷ rest) =
    octets_again_at 3 (g ∷ h ∷ i ∷ []) (sync ∷ low ∷ high ∷ count ∷ rest) refl in
    let all : take (length (t ∷ a ∷ b ∷ c ∷ d ∷ e ∷ f ∷ sid ∷ g ∷ h ∷ i ∷ sync ∷ low ∷ high ∷ count ∷ rest) - 15) rest ≡ rest = take_all (length (t ∷ a ∷ b ∷ c ∷ d ∷ e ∷ f ∷ sid ∷ g ∷ h ∷ i ∷ sync ∷ low ∷ high ∷ count ∷ rest) - 15) rest (omega arith) in
    rw (six, three, two) (ap (λ (others : List ℕ). Some (record { address_type = t; address = a ∷ b ∷ c ∷ d ∷ e ∷ f ∷ []; sid = sid; broadcast_id = g ∷ h ∷ i ∷ []; pa_sync = sync; pa_interval = interval; wishes = [] }, count, others)) (sym all))
is_whole from interval long is = absurd (omega (arith, long))

pub returns-in_default : goal.returns-in_default
returns-in_default c = too_short c.args.from.now c.in_default.len_below

pub returns : goal.returns
returns c =
    rw c.new.ensures (is_whole c.args.from.now (c.from.result + 256 * c.from-2.result) c.in-len15-up.len_at_least (omega (arith, c.from.ensures, c.from-2.ensures)))

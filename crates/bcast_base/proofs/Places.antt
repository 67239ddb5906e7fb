-- The sum of octets by their places, and by what comes last.
use Rattle.bcast_base.proofs.Prelude.{◌≡◌, ◌≤◌, ◌<◌, ℕ, ◌+◌, ◌*◌, ◌/◌, ◌%◌, ◌^◌, List, [], ◌∷◌, ◌++◌, length, sym, ◌∙◌, ap, refl, arith, add-zero, zero-add, zero, suc, ◌-◌, get_or, drop, drop-cons, take, bit_and, subst, length-take-le, pow-add, pow_pos, mul-le, and_mask, div-add-mod', shr_below, take_more_set, sum_from}
use Rattle.std.proofs.Math.Nat.{pow-suc, le_refl}
use Rattle.std.proofs.Math.ListN.{set, length-set}

-- octets after others stand at the places after theirs
pub sum_from-append : (i : ℕ) (prefix back : List ℕ) → sum_from i (prefix ++ back) ≡ sum_from i prefix + sum_from (i + length prefix) back
sum_from-append i [] back = rw (add-zero i) (sym (zero-add (sum_from i back)))
sum_from-append i (octet ∷ prefix) back =
    let rest : sum_from (i + 1) (prefix ++ back) ≡ sum_from (i + 1) prefix + sum_from (i + 1 + length prefix) back = sum_from-append (i + 1) prefix back in
    let place : i + 1 + length prefix ≡ i + length (octet ∷ prefix) = omega arith in
    rw (rest, place) (omega arith)

-- one place on, each octet counts 256 times as much
pub sum_from-suc : (i : ℕ) (octets : List ℕ) → sum_from (i + 1) octets ≡ 256 * sum_from i octets
sum_from-suc i [] = refl
sum_from-suc i (octet ∷ octets) =
    let rest : sum_from (i + 1 + 1) octets ≡ 256 * sum_from (i + 1) octets = sum_from-suc (i + 1) octets in
    rw (rest, pow-add 256 i 1) (omega arith)

-- the first octet, and 256 times what follows
pub sum_from-cons : (octet : ℕ) (octets : List ℕ) → sum_from 0 (octet ∷ octets) ≡ 256 * sum_from 0 octets + octet
sum_from-cons octet octets = rw (sum_from-suc 0 octets) (omega arith)

add_one_octet : (k : ℕ) → 8 * suc k ≡ 8 * k + 8
add_one_octet k = omega arith

-- k octets are 8 × k bits
pub octets_as_bits : (k : ℕ) → 256 ^ k ≡ 2 ^ (8 * k)
octets_as_bits zero = refl
octets_as_bits (suc k) = pow-suc 256 k ∙ ap (λ n. n * 256) (octets_as_bits k) ∙ (sym (pow-add 2 (8 * k) 8) ∙ ap (λ n. 2 ^ n) (sym (add_one_octet k)))

-- what is read so far, with one octet more before it
pub one_more_read : (from : List ℕ) (place value : ℕ) → place < length from → value ≡ sum_from 0 (drop (length from - place) from)
    → value * 256 + get_or from (length from - 1 - place) 0 ≡ sum_from 0 (drop (length from - (place + 1)) from)
one_more_read from place value inside so_far =
    let at : suc (length from - (place + 1)) ≡ length from - place = omega arith in
    let i : length from - 1 - place ≡ length from - (place + 1) = omega arith in
    let below : length from - (place + 1) < length from = omega arith in
    let opened : drop (length from - (place + 1)) from ≡ get_or from (length from - (place + 1)) 0 ∷ drop (length from - place) from =
    drop-cons from (length from - (place + 1)) 0 below ∙ ap (λ n. get_or from (length from - (place + 1)) 0 ∷ drop n from) at in
    let sums : sum_from 0 (drop (length from - (place + 1)) from) ≡ 256 * sum_from 0 (drop (length from - place) from) + get_or from (length from - (place + 1)) 0 =
    ap (sum_from 0) opened ∙ sum_from-cons (get_or from (length from - (place + 1)) 0) (drop (length from - place) from) in
    rw i (omega (arith, sums, so_far))

pow_le : (i j : ℕ) → i ≤ j → 2 ^ i ≤ 2 ^ j
pow_le i j h =
    let e : i + (j - i) ≡ j = omega arith in
    let split : 2 ^ j ≡ 2 ^ i * 2 ^ (j - i) = ap (λ n. 2 ^ n) (sym e) ∙ pow-add 2 i (j - i) in
    omega (arith, split, mul-le (2 ^ i) 1 (2 ^ i) (2 ^ (j - i)) (le_refl (2 ^ i)) (pow_pos (j - i)))

eight_more : (place : ℕ) → 2 ^ (8 * (place + 1)) ≡ 2 ^ (8 * place) * 256
eight_more place = let e : 8 * (place + 1) ≡ 8 * place + 8 = omega arith in ap (λ n. 2 ^ n) e ∙ pow-add 2 (8 * place) 8

-- one octet more takes 8 bits more
pub small_read : (place value octet : ℕ) → value < 2 ^ (8 * place) → octet < 256 → value * 256 + octet < 2 ^ (8 * (place + 1))
small_read place value octet small fits = omega (arith, eight_more place)

-- and up to 8 octets fit 64 bits
pub fits_read : (place value octet : ℕ) → place < 8 → value < 2 ^ (8 * place) → octet < 256 → value * 256 + octet < 2 ^ 64
fits_read place value octet inside small fits =
    omega (arith, small_read place value octet small fits, pow_le (8 * (place + 1)) 64 (omega arith))

spread : (s p q m : ℕ) → s + p * (q * 256 + m) ≡ s + m * p + p * 256 * q
spread s p q m = omega arith

-- the octet that is written next stands above those written, and what is left above it
pub one_more_written : (value place rest : ℕ) (into : List ℕ) → place < length into → value ≡ sum_from 0 (take place into) + 2 ^ (8 * place) * rest
    → value ≡ sum_from 0 (take (place + 1) (set into place (bit_and rest 255))) + 2 ^ (8 * (place + 1)) * (rest / 256)
one_more_written value place rest into inside so_far =
    grind (
      arith,
      and_mask rest 8,
      div-add-mod' rest 256,
      length-take-le place into (omega arith),
      zero-add (length (take place into)),
      add-zero (bit_and rest 255 * 256 ^ place),
      octets_as_bits place,
      take_more_set into place (bit_and rest 255) inside,
      sum_from-append 0 (take place into) (bit_and rest 255 ∷ []),
      spread (sum_from 0 (take place into)) (2 ^ (8 * place)) (rest / 256) (rest % 256),
      eight_more place,
    )

-- the bits that are left are 8 fewer
pub small_rest : (place total rest : ℕ) → place < total → rest < 2 ^ (8 * (total - place)) → rest / 256 < 2 ^ (8 * (total - (place + 1)))
small_rest place total rest inside small =
    let e : 8 * (total - place) ≡ 8 * (total - (place + 1)) + 8 = omega arith in
    shr_below rest (8 * (total - (place + 1))) 8 (subst (λ (n : ℕ). rest < 2 ^ n) e small)

-- the same, beside the octet that was just written
pub same_length_rest : (place rest octet : ℕ) (into : List ℕ) → place < length into → rest < 2 ^ (8 * (length into - place)) → rest / 256 < 2 ^ (8 * (length (set into place octet) - (place + 1)))
same_length_rest place rest octet into inside small = rw length-set (small_rest place (length into) rest inside small)

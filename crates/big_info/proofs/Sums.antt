-- The number that octets encode, from the words that they are joined of.
use Rattle.big_info.proofs.Prelude.{◌≡◌, ◌≤◌, ◌<◌, ℕ, zero, suc, ◌+◌, ◌*◌, ◌^◌, List, [], ◌∷◌, ◌++◌, length, take, drop, get_or, ◌∙◌, ap, arith, zero-add, length-take-le, length-take, length-drop, subst, take_more, get_or-take, get_or-drop, sum_from, sum_from-append, sum_from-suc, sum_from-cons, small_read, pow-suc}
use Rattle.std.proofs.Math.Seq.{take-add}

-- octets from place i on count 256 ^ i times as much
pub sum_from-places : (i : ℕ) (octets : List ℕ) → sum_from i octets ≡ 256 ^ i * sum_from 0 octets
sum_from-places zero octets = omega arith
sum_from-places (suc i) octets =
    let next : sum_from (suc i) octets ≡ sum_from (i + 1) octets = ap (λ (n : ℕ). sum_from n octets) (omega arith) in
    next ∙ sum_from-suc i octets ∙ ap (λ (n : ℕ). 256 * n) (sum_from-places i octets) ∙ rw (pow-suc 256 i) (omega arith)

-- octets after others
pub sum_from-join : (prefix back : List ℕ) → sum_from 0 (prefix ++ back) ≡ sum_from 0 prefix + 256 ^ length prefix * sum_from 0 back
sum_from-join prefix back = grind (arith, sum_from-append, sum_from, zero-add, length, sum_from-places)

-- the first octets, with those of a word more
pub sum_from-word : (place count : ℕ) (octets : List ℕ) → place ≤ length octets
    → sum_from 0 (take (place + count) octets) ≡ sum_from 0 (take place octets) + 256 ^ place * sum_from 0 (take count (drop place octets))
sum_from-word place count octets inside = grind (arith, sum_from, take-add, sum_from-join, take, drop, length-take-le)

-- the first octets, with one more
pub sum_from-more : (place : ℕ) (octets : List ℕ) → place < length octets
    → sum_from 0 (take (place + 1) octets) ≡ sum_from 0 (take place octets) + 256 ^ place * get_or octets place 0
sum_from-more place octets inside =
    grind (
      arith,
      take_more octets place 0 inside,
      sum_from-join (take place octets) (get_or octets place 0 ∷ []),
      length-take-le place octets (omega arith),
    )

-- octets encode a number of 8 bits each
sum_from-below : (octets : List ℕ) → ((i : ℕ) → i < length octets → get_or octets i 0 < 256) → sum_from 0 octets < 2 ^ (8 * length octets)
sum_from-below [] fits = omega arith
sum_from-below (octet ∷ octets) fits =
    let rest : sum_from 0 octets < 2 ^ (8 * length octets) = sum_from-below octets (λ i h. fits (suc i) (omega (arith, h))) in
    let more : sum_from 0 octets * 256 + octet < 2 ^ (8 * (length octets + 1)) = small_read (length octets) (sum_from 0 octets) octet rest (fits 0 (omega arith)) in
    let long : length octets + 1 ≡ length (octet ∷ octets) = omega arith in
    let same : sum_from 0 octets * 256 + octet ≡ sum_from 0 (octet ∷ octets) = omega (arith, sum_from-cons octet octets) in
    subst (λ (n : ℕ). n < 2 ^ (8 * length (octet ∷ octets))) same (subst (λ (n : ℕ). sum_from 0 octets * 256 + octet < 2 ^ (8 * n)) long more)

-- and so does a part of them
pub sum_from-part : (place count : ℕ) (octets : List ℕ) → place + count ≤ length octets → ((i : ℕ) → get_or octets i 0 < 256)
    → sum_from 0 (take count (drop place octets)) < 2 ^ (8 * count)
sum_from-part place count octets inside fits =
    grind (arith, length, take, drop, length-take, length-drop, sum_from, sum_from-below, get_or, get_or-take, get_or-drop)

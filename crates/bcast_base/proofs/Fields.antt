-- A field that is read is the field that was written, and what was written is read again.
use Rattle.bcast_base.proofs.Prelude.{◌≡◌, ℕ, zero, suc, ◌+◌, ◌-◌, ◌*◌, ◌/◌, ◌%◌, ◌^◌, ◌<◌, ◌≤◌, Bool, false, cond, ltb, List, [], ◌∷◌, ◌++◌, length, take, drop, Some, None, refl, sym, ap, subst, ◌∙◌, append_assoc, arith, take_at, drop_at, take-append-drop, length-append, length-take, get_or, get_or-drop, get_or-take, get_or_past, pow-add, sum_from, octet_in, octets_in, number_in, counted_in, Takes, IsOctets, octet, counted, cases_lt, ltb-false, le-ltb, w32, w64, to_le_bytes}
use Rattle.std.proofs.lemmas.Option.{some_pair_parts}
use Rattle.bcast_base.proofs.Places.{sum_from-cons}
use Rattle.bcast_base.specs.Encoding.{number}

pub IsOctets-drop : (n : ℕ) (octets : List ℕ) → IsOctets octets → IsOctets (drop n octets)
IsOctets-drop n octets h i = rw get_or-drop (h (n + i))

pub IsOctets-take : (n : ℕ) (octets : List ℕ) → IsOctets octets → IsOctets (take n octets)
IsOctets-take n octets h i = grind (arith, cases_lt, get_or-take, get_or_past, take, length-take)

pub IsOctets-rest : (first : ℕ) (octets : List ℕ) → IsOctets (first ∷ octets) → IsOctets octets
IsOctets-rest first octets h i = h (suc i)

pub IsOctets-prefix : (prefix rest : List ℕ) → IsOctets (prefix ++ rest) → IsOctets prefix
IsOctets-prefix prefix rest h = subst IsOctets (take_at prefix rest (length prefix) refl) (IsOctets-take (length prefix) (prefix ++ rest) h)

-- a test that did not fail
pub guard_some : {A : Type 0} (b : Bool) (x y : A) → cond b None (Some x) ≡ Some y → (b ≡ false) × (x ≡ y)
guard_some b x y e = grind arith

-- what was taken first and what was taken next, together
pub Takes-then : (a x b y c : List ℕ) → Takes a x b → Takes b y c → Takes a (x ++ y) c
Takes-then a x b y c p q = record { parts = p.parts ∙ ap (λ (t : List ℕ). x ++ t) q.parts ∙ sym (append_assoc x y c); fits = λ h. q.fits (p.fits h) }

-- ---- one octet

pub octet_takes : (from : List ℕ) (value : ℕ) (rest : List ℕ) → octet_in from ≡ Some (value, rest) → Takes from (octet value) rest
octet_takes [] value rest e = absurd cc
octet_takes (first ∷ others) value rest e =
    let same = some_pair_parts first value others rest e in
    rw (← same.0, ← same.1) (record { parts = refl; fits = IsOctets-rest first others })

-- ---- octets as they are

pub octets_take : (k : ℕ) (from value rest : List ℕ) → octets_in k from ≡ Some (value, rest) → Takes from value rest × (length value ≡ k)
octets_take k from value rest e =
    grind (arith, guard_some, ltb, length, take, drop, ltb-false, take-append-drop, IsOctets-drop, length-take)

pub octets_again : (value rest : List ℕ) → octets_in (length value) (value ++ rest) ≡ Some (value, rest)
octets_again value rest = grind (arith, ltb, length, le-ltb, length-append, take_at, drop_at)

-- ---- octets behind their count

pub counted_takes : (from value rest : List ℕ) → counted_in from ≡ Some (value, rest) → Takes from (counted value) rest
counted_takes [] value rest e = absurd cc
counted_takes (count ∷ others) value rest e =
    let t = octets_take count others value rest e in
    record { parts = rw t.1 (ap (λ (x : List ℕ). count ∷ x) t.0.parts); fits = λ h. t.0.fits (IsOctets-rest count others h) }

pub counted_again : (value rest : List ℕ) → counted_in (counted value ++ rest) ≡ Some (value, rest)
counted_again value rest = octets_again value rest

-- ---- numbers

one_wider : (k : ℕ) → 2 ^ (8 * suc k) ≡ 256 * 2 ^ (8 * k)
one_wider k = let e : 8 * suc k ≡ 8 + 8 * k = omega arith in ap (λ n. 2 ^ n) e ∙ pow-add 2 8 (8 * k)

pub number-length : (k value : ℕ) → length (number k value) ≡ k
unfolding number
number-length zero value = refl
number-length (suc k) value = ap suc (number-length k (value / 256))

pub number_below : (octets : List ℕ) → IsOctets octets → sum_from 0 octets < 2 ^ (8 * length octets)
number_below [] h = omega arith
number_below (first ∷ octets) h = grind (arith, number_below octets (IsOctets-rest first octets h), sum_from-cons first octets, one_wider (length octets), h 0)

pub number_back : (octets : List ℕ) → IsOctets octets → number (length octets) (sum_from 0 octets) ≡ octets
unfolding number
number_back [] h = refl
number_back (first ∷ octets) h =
    let low : sum_from 0 (first ∷ octets) % 256 ≡ first = omega (arith, sum_from-cons first octets, h 0) in
    let high : sum_from 0 (first ∷ octets) / 256 ≡ sum_from 0 octets = omega (arith, sum_from-cons first octets, h 0) in
    let rest : number (length octets) (sum_from 0 octets) ≡ octets = number_back octets (IsOctets-rest first octets h) in
    ap (λ (n : ℕ). n ∷ number (length octets) (sum_from 0 (first ∷ octets) / 256)) low ∙ ap (λ (n : ℕ). first ∷ number (length octets) n) high ∙ ap (λ (x : List ℕ). first ∷ x) rest

pub number_sum : (k value : ℕ) → value < 2 ^ (8 * k) → sum_from 0 (number k value) ≡ value
unfolding number
number_sum zero value lt = omega (arith, lt)
number_sum (suc k) value lt =
    let small : value / 256 < 2 ^ (8 * k) = omega (arith, lt, one_wider k) in
    let rest : sum_from 0 (number k (value / 256)) ≡ value / 256 = number_sum k (value / 256) small in
    omega (arith, sum_from-cons (value % 256) (number k (value / 256)), rest)

take_number : (k more value : ℕ) → take k (number (k + more) value) ≡ number k value
unfolding number
take_number zero more value = refl
take_number (suc k) more value =
    let e : suc k + more ≡ suc (k + more) = omega arith in
    ap (λ (n : ℕ). take (suc k) (number n value)) e ∙ ap (λ (x : List ℕ). (value % 256) ∷ x) (take_number k more (value / 256))

eight_octets : (value : ℕ) → to_le_bytes w64 value ≡ number 8 value
unfolding number
eight_octets value = grind arith

pub prefix_of_eight : (k value : ℕ) → k ≤ 8 → take k (to_le_bytes w64 value) ≡ number k value
prefix_of_eight k value h =
    let e : 8 ≡ k + (8 - k) = omega arith in
    ap (take k) (eight_octets value) ∙ ap (λ (n : ℕ). take k (number n value)) e ∙ take_number k (8 - k) value

four_octets : (value : ℕ) → to_le_bytes w32 value ≡ number 4 value
unfolding number
four_octets value = grind arith

four_of : (octets rest : List ℕ) → length octets ≡ 4 → get_or octets 0 0 ∷ get_or octets 1 0 ∷ get_or octets 2 0 ∷ get_or octets 3 0 ∷ rest ≡ octets ++ rest
four_of [] rest is = absurd cc
four_of (a ∷ []) rest is = absurd cc
four_of (a ∷ b ∷ []) rest is = absurd cc
four_of (a ∷ b ∷ c ∷ []) rest is = absurd cc
four_of (a ∷ b ∷ c ∷ d ∷ []) rest is = refl
four_of (a ∷ b ∷ c ∷ d ∷ e ∷ more) rest is = absurd cc

-- four octets of a number one by one, and what stands behind them
pub one_by_one : (value : ℕ) (octets rest : List ℕ) → octets ≡ to_le_bytes w32 value → get_or octets 0 0 ∷ get_or octets 1 0 ∷ get_or octets 2 0 ∷ get_or octets 3 0 ∷ rest ≡ number 4 value ++ rest
one_by_one value octets rest is =
    let same : octets ≡ number 4 value = is ∙ four_octets value in
    rw same (four_of (number 4 value) rest (number-length 4 value))

-- the octets of a number are those that encode it
pub number_once : (k value : ℕ) (octets : List ℕ) → IsOctets octets → length octets ≡ k → value ≡ sum_from 0 octets → octets ≡ number k value
number_once k value octets h long e = rw (e, ← long) (sym (number_back octets h))

pub number_takes : (k : ℕ) (from : List ℕ) (value : ℕ) (rest : List ℕ) → IsOctets from → number_in k from ≡ Some (value, rest) → Takes from (number k value) rest × (value < 2 ^ (8 * k))
number_takes k from value rest h e =
    grind (
      arith,
      guard_some,
      ltb,
      length,
      sum_from,
      take,
      drop,
      ltb-false,
      IsOctets-take,
      length-take,
      number_once,
      take-append-drop,
      IsOctets-drop,
      number_below,
    )

pub number_again : (k value : ℕ) (rest : List ℕ) → value < 2 ^ (8 * k) → number_in k (number k value ++ rest) ≡ Some (value, rest)
number_again k value rest lt = grind (arith, length, number-length, ltb, le-ltb, length-append, take_at, drop_at, number_sum)

-- the number of the octets that were taken has room in as many
pub octets_below : (k : ℕ) (from value rest : List ℕ) (n : ℕ) → IsOctets from → octets_in k from ≡ Some (value, rest) → n ≡ sum_from 0 value → n < 2 ^ (8 * k)
octets_below k from value rest n h e encoded =
    let t = octets_take k from value rest e in
    let fits : IsOctets value = IsOctets-prefix value rest (subst IsOctets t.0.parts h) in
    let small : sum_from 0 value < 2 ^ (8 * k) = subst (λ (m : ℕ). sum_from 0 value < 2 ^ (8 * m)) t.1 (number_below value fits) in
    omega (arith, encoded, small)

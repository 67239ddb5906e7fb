-- The elements of a list that pass a test, and what is handed of them.
use Rattle.group_sink.proofs.Prelude.{ℕ, zero, suc, ◌≡◌, ◌↔◌, ◌⊎◌, ◌+◌, ◌-◌, ◌<◌, ◌≤◌, Bool, true, false, cond, List, [], ◌∷◌, ◌++◌, length, get_or, refl, ◌∙◌, subst, inl, inr, arith, Contains, filter, flat_map, range_with_len, cond-true, eq-eqb, eqb-true, get_or-range_with_len, length-range_with_len, Handed, is_in, streams_of, bit_at, Has}
use Rattle.std.specs.List.Sorted.{IsStrictlyIncreasing}
use Rattle.std.proofs.lemmas.List.Kept.{IsStrictlyIncreasing-filter}

flat_map_one : (taken : Bool) (f : ℕ → List Handed) (x : ℕ) (xs : List ℕ)
    → cond taken (f x) [] ++ flat_map f xs ≡ flat_map f (cond taken (x ∷ xs) xs)
flat_map_one taken f x xs = grind arith

-- what is handed of the elements that pass a test
pub flat_map_filter : (test : ℕ → Bool) (f : ℕ → List Handed) (xs : List ℕ)
    → flat_map (λ x. cond (test x) (f x) []) xs ≡ flat_map f (filter test xs)
flat_map_filter test f [] = refl
flat_map_filter test f (x ∷ xs) = grind (arith, flat_map_filter test f xs, flat_map_one (test x) f x (filter test xs))

-- an element of a list that passes the test stands in the list of those that do, and no other does
here : (x : ℕ) (xs : List ℕ) → Contains (x ∷ xs) x
here x xs = (0, omega arith, refl)

there : (x y : ℕ) (xs : List ℕ) → Contains xs y → Contains (x ∷ xs) y
there x y xs at = (suc at.0, omega (arith, at.1), at.2)

head_or_tail : (x y : ℕ) (xs : List ℕ) → Contains (x ∷ xs) y → (x ≡ y) ⊎ Contains xs y
head_or_tail x y xs at = split at.0 at.1 at.2 where
  split : (k : ℕ) → k < length (x ∷ xs) → get_or (x ∷ xs) k y ≡ y → (x ≡ y) ⊎ Contains xs y
  split zero below is = inl is
  split (suc k) below is = inr (k, omega arith, is)

kept_one : (taken : Bool) (x y : ℕ) (xs : List ℕ) → Contains xs y → Contains (cond taken (x ∷ xs) xs) y
kept_one true x y xs at = there x y xs at
kept_one false x y xs at = at

filter_keeps : (test : ℕ → Bool) (xs : List ℕ) (y : ℕ) → test y ≡ true → Contains xs y → Contains (filter test xs) y
filter_keeps test [] y passes at = absurd (omega (arith, at.1))
filter_keeps test (x ∷ xs) y passes at = elim (head_or_tail x y xs at) [
  | inl same ↦ grind (arith, cond-true, filter, here)
  | inr rest ↦ kept_one (test x) x y (filter test xs) (filter_keeps test xs y passes rest)
]

passes_one : (test : ℕ → Bool) (taken : Bool) (x y : ℕ) (xs ys : List ℕ) → test x ≡ taken
    → ((z : ℕ) → Contains ys z → (test z ≡ true) × Contains xs z) → Contains (cond taken (x ∷ ys) ys) y → (test y ≡ true) × Contains (x ∷ xs) y
passes_one test false x y xs ys is all at = ((all y at).0, there x y xs (all y at).1)
passes_one test true x y xs ys is all at = elim (head_or_tail x y ys at) [
  | inl same ↦ (subst (λ z. test z ≡ true) same is, subst (λ z. Contains (x ∷ xs) z) same (here x xs))
  | inr rest ↦ ((all y rest).0, there x y xs (all y rest).1)
]

filter_passes : (test : ℕ → Bool) (xs : List ℕ) (y : ℕ) → Contains (filter test xs) y → (test y ≡ true) × Contains xs y
filter_passes test [] y at = absurd (omega (arith, at.1))
filter_passes test (x ∷ xs) y at = passes_one test (test x) x y xs (filter test xs) refl (filter_passes test xs) at

in_range : (start n y : ℕ) → Contains (range_with_len start n) y → (start ≤ y) × (y < start + n)
in_range start n y at = grind (arith, length-range_with_len, get_or-range_with_len)

range_has : (start n y : ℕ) → start ≤ y → y < start + n → Contains (range_with_len start n) y
range_has start n y least below = (
  y - start,
  omega (arith, length-range_with_len start n),
  (let same : start + (y - start) ≡ y = omega arith in get_or-range_with_len start n (y - start) y (omega arith) ∙ same),
)

pub is_member : (set bis : ℕ) → 1 ≤ bis → bis ≤ 31 → is_in set bis ≡ true → Contains (streams_of set) bis
is_member set bis least greatest taken = filter_keeps (is_in set) (range_with_len 1 31) bis taken (range_has 1 31 bis least (omega arith))

pub member_is : (set bis : ℕ) → Contains (streams_of set) bis → (is_in set bis ≡ true) × (1 ≤ bis) × (bis ≤ 31)
member_is set bis at =
    let both : (is_in set bis ≡ true) × Contains (range_with_len 1 31) bis = filter_passes (is_in set) (range_with_len 1 31) bis at in
    let within : (1 ≤ bis) × (bis < 1 + 31) = in_range 1 31 bis both.1 in
    (both.0, within.0, omega arith)

pub members : (set bis : ℕ) → Contains (streams_of set) bis ↔ ((1 ≤ bis) × (bis ≤ 31) × Has set bis)
members set bis = (
  λ at. let is = member_is set bis at in (is.1, is.2, eqb-true (bit_at set (bis - 1)) 1 is.0),
  λ all. is_member set bis all.0 all.1 (eq-eqb (bit_at set (bis - 1)) 1 all.2),
)

range_rises : (start n : ℕ) → IsStrictlyIncreasing (range_with_len start n)
range_rises start n k below = grind (arith, length-range_with_len, get_or-range_with_len)

pub set_rises : (set : ℕ) → IsStrictlyIncreasing (streams_of set)
set_rises set = IsStrictlyIncreasing-filter (is_in set) (range_with_len 1 31) (range_rises 1 31)

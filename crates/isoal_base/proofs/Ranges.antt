-- What a function gives over a range of numbers, when the function or the range changes.
use Rattle.std.proofs.Common.{ℕ, zero, suc, ◌≡◌, ◌≢◌, ◌+◌, ◌-◌, ◌<◌, ◌≤◌, ◌∷◌, ◌++◌, map, take, drop, set, replicate, refl, ap, ◌∙◌, subst, arith}
use Rattle.std.specs.List.{range_with_len}
use Rattle.std.proofs.lemmas.List.FromFn.{take-map-range_with_len}

-- functions that agree over the range
pub map_same : {A : Type 0} (f g : ℕ → A) (start n : ℕ) → ((i : ℕ) → start ≤ i → i < start + n → f i ≡ g i)
    → map f (range_with_len start n) ≡ map g (range_with_len start n)
map_same f g start zero same = refl
map_same f g start (suc n) same = grind (arith, same start (omega arith) (omega arith), map_same f g (start + 1) n (λ i least below. same i (omega arith) (omega arith)))

-- a function that changes at one number
pub map_changed : {A : Type 0} (f g : ℕ → A) (start n at : ℕ) (new : A) → at < n
    → ((i : ℕ) → start ≤ i → i < start + n → i ≢ start + at → f i ≡ g i) → g (start + at) ≡ new
    → map g (range_with_len start n) ≡ set (map f (range_with_len start n)) at new
map_changed f g start zero at new below same here = absurd (omega arith)
map_changed f g start (suc n) zero new below same here = grind (arith, map_same)
map_changed f g start (suc n) (suc at) new below same here = grind (arith, same start (omega arith) (omega arith) (λ is. omega arith), map_changed f g (start + 1) n at new (omega arith) (λ i least under other. same i (omega arith) (omega arith) (λ is. other (omega arith))) (subst (λ i. g i ≡ new) (omega arith) here))

-- a range in two parts
pub map_append : {A : Type 0} (f : ℕ → A) (start m n : ℕ)
    → map f (range_with_len start (m + n)) ≡ map f (range_with_len start m) ++ map f (range_with_len (start + m) n)
map_append f start zero n = grind arith
map_append f start (suc m) n =
    let more : suc m + n ≡ suc (m + n) = omega arith in
    let next : start + 1 + m ≡ start + suc m = omega arith in
    ap (λ k. map f (range_with_len start k)) more ∙ ap (λ xs. f start ∷ xs) (map_append f (start + 1) m n)
    ∙ ap (λ k. f start ∷ map f (range_with_len (start + 1) m) ++ map f (range_with_len k n)) next

-- a range from its i-th number on
pub map_rest : {A : Type 0} (f : ℕ → A) (start n i : ℕ) → i ≤ n
    → drop i (map f (range_with_len start n)) ≡ map f (range_with_len (start + i) (n - i))
map_rest f start n zero within = grind arith
map_rest f start zero (suc i) within = absurd (omega arith)
map_rest f start (suc n) (suc i) within =
    let next : start + 1 + i ≡ start + suc i = omega arith in
    let left : n - i ≡ suc n - suc i = omega arith in
    map_rest f (start + 1) n i (omega arith)
    ∙ ap (λ k. map f (range_with_len k (n - i))) next ∙ ap (λ k. map f (range_with_len (start + suc i) k)) left

-- the part of a range that has `count` numbers from its i-th on
pub map_part : {A : Type 0} (f : ℕ → A) (start n i count : ℕ) → i + count ≤ n
    → take count (drop i (map f (range_with_len start n))) ≡ map f (range_with_len (start + i) count)
map_part f start n i count within = grind (arith, map_rest, take-map-range_with_len)

-- a function with one value over the range
pub map_constant : {A : Type 0} (f : ℕ → A) (value : A) (start n : ℕ) → ((i : ℕ) → start ≤ i → i < start + n → f i ≡ value)
    → map f (range_with_len start n) ≡ replicate n value
map_constant f value start zero same = refl
map_constant f value start (suc n) same =
    ap (λ x. x ∷ map f (range_with_len (start + 1) n)) (same start (omega arith) (omega arith))
    ∙ ap (λ xs. value ∷ xs) (map_constant f value (start + 1) n (λ i least below. same i (omega arith) (omega arith)))

-- a window that moves by `count` numbers, past numbers of one value
pub map_shifted : {A : Type 0} (f : ℕ → A) (value : A) (start n count : ℕ) → count ≤ n → ((i : ℕ) → start + n ≤ i → f i ≡ value)
    → map f (range_with_len (start + count) n) ≡ drop count (map f (range_with_len start n)) ++ replicate count value
map_shifted f value start n count within same = grind (arith, map_append, map_rest, map_constant)

-- Lists that are made from a function of the index, and places of a list in rows.
use Rattle.isoal_unframed.proofs.Prelude.{ℕ, ◌≡◌, ◌<◌, ◌+◌, ◌*◌, ◌/◌, ◌%◌, zero, suc, List, [], ◌++◌, map, arith, ◌∙◌, ap, sym, refl, append-nil, append_assoc, div-mul-add, mod-mul-add, flat_map, range_with_len, map_append}

pub map_same : {X : Type 0} (f g : ℕ → X) (a b n : ℕ) → ((i : ℕ) → i < n → f (a + i) ≡ g (b + i)) → map f (range_with_len a n) ≡ map g (range_with_len b n)
map_same f g a b zero same = refl
map_same f g a b (suc n) same =
    let at_a : a + 0 ≡ a = omega arith in
    let at_b : b + 0 ≡ b = omega arith in
    let here : f a ≡ g b = ap f (sym at_a) ∙ same 0 (omega arith) ∙ ap g at_b in
    let rest : (i : ℕ) → i < n → f (a + 1 + i) ≡ g (b + 1 + i) = λ i below.
    let left : a + 1 + i ≡ a + suc i = omega arith in
    let right : b + suc i ≡ b + 1 + i = omega arith in
    ap f left ∙ same (suc i) (omega (arith, below)) ∙ ap g right in
    rw (here, map_same f g (a + 1) (b + 1) n rest) refl

pub rows : {X : Type 0} (f : ℕ → ℕ → X) (m a k : ℕ) → flat_map (λ j. map (f j) (range_with_len 0 m)) (range_with_len a k) ≡ map (λ i. f (i / m) (i % m)) (range_with_len (a * m) (k * m))
rows f m a zero = grind arith
rows f m a (suc k) =
    let at : ℕ → _ = λ i. f (i / m) (i % m) in
    let row : map (f a) (range_with_len 0 m) ≡ map at (range_with_len (a * m) m) = grind (arith, map_same, div-mul-add, mod-mul-add) in
    let next : a * m + m ≡ (a + 1) * m = omega arith in
    let count : suc k * m ≡ m + k * m = omega arith in
    rw (row, rows f m (a + 1) k, count, map_append at (a * m) m (k * m), next) refl

pub flat_map_one_more : {X : Type 0} (f : ℕ → List X) (a n : ℕ) → flat_map f (range_with_len a (suc n)) ≡ flat_map f (range_with_len a n) ++ f (a + n)
flat_map_one_more f a zero = grind (arith, append-nil)
flat_map_one_more f a (suc n) =
    let next : a + suc n ≡ a + 1 + n = omega arith in
    rw next (ap (λ xs. f a ++ xs) (flat_map_one_more f (a + 1) n) ∙ sym (append_assoc (f a) (flat_map f (range_with_len (a + 1) n)) (f (a + 1 + n))))

pub flat_map_same : {X : Type 0} (f g : ℕ → List X) (a b n : ℕ) → ((i : ℕ) → i < n → f (a + i) ≡ g (b + i)) → flat_map f (range_with_len a n) ≡ flat_map g (range_with_len b n)
flat_map_same f g a b zero same = refl
flat_map_same f g a b (suc n) same =
    let at_a : a + 0 ≡ a = omega arith in
    let at_b : b + 0 ≡ b = omega arith in
    let here : f a ≡ g b = ap f (sym at_a) ∙ same 0 (omega arith) ∙ ap g at_b in
    let rest : (i : ℕ) → i < n → f (a + 1 + i) ≡ g (b + 1 + i) = λ i below.
    let left : a + 1 + i ≡ a + suc i = omega arith in
    let right : b + suc i ≡ b + 1 + i = omega arith in
    ap f left ∙ same (suc i) (omega (arith, below)) ∙ ap g right in
    rw (here, flat_map_same f g (a + 1) (b + 1) n rest) refl

pub flat_map_nothing : {X : Type 0} (f : ℕ → List X) (a n : ℕ) → ((i : ℕ) → i < n → f (a + i) ≡ []) → flat_map f (range_with_len a n) ≡ []
flat_map_nothing f a zero none = refl
flat_map_nothing f a (suc n) none =
    let at : a + 0 ≡ a = omega arith in
    let here : f a ≡ [] = ap f (sym at) ∙ none 0 (omega arith) in
    rw here (flat_map_nothing f (a + 1) n (λ i below. let next : a + 1 + i ≡ a + suc i = omega arith in ap f next ∙ none (suc i) (omega (arith, below))))

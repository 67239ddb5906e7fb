-- Lists made over the slots, of which one changes.
use Rattle.delegator_history.proofs.Prelude.{ℕ, zero, suc, ◌≡◌, ◌≢◌, ◌+◌, ◌<◌, ◌≤◌, List, [], ◌∷◌, map, set, get_or, eqb, true, false, ◌⊎◌, refl, sym, ap, ◌∙◌, subst, arith, flat_map, range_with_len, append-nil}
use Rattle.std.proofs.lemmas.Bool.Decides.{eqb_tells}

pub map_agrees : {A : Type 0} (f g : ℕ → A) (start n : ℕ) → ((i : ℕ) → start ≤ i → g i ≡ f i) → map g (range_with_len start n) ≡ map f (range_with_len start n)
map_agrees f g start zero same = refl
map_agrees f g start (suc n) same = grind (arith, same start (omega arith), map_agrees f g (start + 1) n (λ i least. same i (omega arith)))

-- a function that changes at one number, which may be past the end
pub map_changes : {A : Type 0} (f g : ℕ → A) (start n at : ℕ) (new : A) → ((i : ℕ) → i ≢ start + at → g i ≡ f i)
    → (at < n → g (start + at) ≡ new) → map g (range_with_len start n) ≡ set (map f (range_with_len start n)) at new
map_changes f g start zero at new same here = refl
map_changes f g start (suc n) zero new same here = grind (arith, map, range_with_len, map_agrees)
map_changes f g start (suc n) (suc at) new same here =
    let next : start + 1 + at ≡ start + suc at = omega arith in
    ap (λ x. x ∷ map g (range_with_len (start + 1) n)) (same start (λ is. omega arith)) ∙ ap (λ xs. f start ∷ xs)
    (map_changes f g (start + 1) n at new (λ i other. same i (λ is. other (omega arith))) (λ below. subst (λ i. g i ≡ new) (sym next) (here (omega arith))))

-- the same over the numbers from 0 on
pub map_changes_first : {A : Type 0} (f g : ℕ → A) (n at : ℕ) (new : A)
    → ((i : ℕ) → i ≢ at → g i ≡ f i) → (at < n → g at ≡ new) → map g (range_with_len 0 n) ≡ set (map f (range_with_len 0 n)) at new
map_changes_first f g n at new same here = grind (arith, map_changes)

-- what stands at a place
pub map_at : {A : Type 0} (f : ℕ → A) (start n at : ℕ) (d : A) → at < n → get_or (map f (range_with_len start n)) at d ≡ f (start + at)
map_at f start zero at d below = absurd (omega arith)
map_at f start (suc n) zero d below = ap f (omega arith)
map_at f start (suc n) (suc at) d below = map_at f (start + 1) n at d (omega arith) ∙ ap f (omega arith)

-- a list of lists of which all are empty, or all but one
pub flat_none : {A : Type 0} (f : ℕ → List A) (start n : ℕ) → ((i : ℕ) → start ≤ i → i < start + n → f i ≡ []) → flat_map f (range_with_len start n) ≡ []
flat_none f start zero none = refl
flat_none f start (suc n) none = grind (arith, none start (omega arith) (omega arith), flat_none f (start + 1) n (λ i least below. none i (omega arith) (omega arith)))

flat_first : {A : Type 0} (f : ℕ → List A) (start n at : ℕ) → ((eqb start at ≡ true) × (start ≡ at)) ⊎ ((eqb start at ≡ false) × (start ≢ at))
    → ((i : ℕ) → i ≢ at → f i ≡ []) → (start ≢ at → flat_map f (range_with_len (start + 1) n) ≡ f at) → flat_map f (range_with_len start (suc n)) ≡ f at
flat_first f start n at x5 none later = grind (arith, flat_none, append-nil, flat_map, range_with_len)

pub flat_one : {A : Type 0} (f : ℕ → List A) (start n at : ℕ) → start ≤ at → at < start + n
    → ((i : ℕ) → i ≢ at → f i ≡ []) → flat_map f (range_with_len start n) ≡ f at
flat_one f start zero at least below none = absurd (omega arith)
flat_one f start (suc n) at least below none =
    flat_first f start n at (eqb_tells start at) none (λ not. flat_one f (start + 1) n at (omega (arith, not)) (omega arith) none)

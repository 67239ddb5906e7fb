-- The first word of a line ends at its first space.
use Rattle.scenario_words.proofs.Prelude.{◌≡◌, ◌≤◌, ◌<◌, ◌+◌, ◌-◌, ◌⊎◌, inl, inr, ℕ, suc, Bool, true, false, nat_eq, List, [], ◌∷◌, length, get_or, take, drop, refl, eqb-true, arith, cases_lt, get_or-drop, length-drop, take_rest, words_of}

pub refused : (b : Bool) → (b ≡ true → ⊥) → b ≡ false
refused b h = grind arith

pub no_space : (line : List ℕ) → ((k : ℕ) → 0 ≤ k → k < length line → nat_eq (get_or line k 0) 32 ≡ true → ⊥) → words_of line ≡ line ∷ []
no_space [] h = refl
no_space (x ∷ line) h = grind (arith, refused _ (h 0 (omega arith) (omega arith)), no_space line (λ k low high. h (suc k) (omega arith) (omega arith)))

pub first_space : (line : List ℕ) (end : ℕ) → end < length line → ((k : ℕ) → 0 ≤ k → k < end → nat_eq (get_or line k 0) 32 ≡ true → ⊥) → nat_eq (get_or line end 0) 32 ≡ true
    → words_of line ≡ take end line ∷ words_of (drop (suc end) line)
first_space (x ∷ line) (suc end) inside before at = grind (arith, refused _ (before 0 (omega arith) (omega arith)), first_space line end (omega arith) (λ k low high. before (suc k) (omega arith) (omega arith)) at)
first_space line end inside before at = search (nat_eq, refused, words_of, take, drop)

-- none among the first n octets, and none of the next m behind them
behind : (line : List ℕ) (n m k : ℕ) → ((j : ℕ) → 0 ≤ j → j < n → nat_eq (get_or line j 0) 32 ≡ true → ⊥)
    → ((j : ℕ) → 0 ≤ j → j < m → nat_eq (get_or (drop n line) j 0) 32 ≡ true → ⊥)
    → k < n + m → nat_eq (get_or line k 0) 32 ≡ true → (k < n) ⊎ (n ≤ k) → ⊥
behind line n m k near far inside here (inl low) = near k (omega arith) low here
behind line n m k near far inside here (inr high) =
    let place : n + (k - n) ≡ k = omega arith in
    far (k - n) (omega arith) (omega arith) (rw (get_or-drop n line (k - n) 0, place) here)

-- the piece behind the first n octets
long_behind : (line piece : List ℕ) (n : ℕ) → piece ≡ take (length line - n) (drop n line) → (piece ≡ drop n line) × (length piece ≡ length line - n)
long_behind line piece n is = grind (arith, take_rest, length, length-drop)

pub none_behind : (line piece : List ℕ) (n : ℕ) → n ≤ length line → piece ≡ take (length line - n) (drop n line)
    → ((j : ℕ) → 0 ≤ j → j < n → nat_eq (get_or line j 0) 32 ≡ true → ⊥)
    → ((j : ℕ) → 0 ≤ j → j < length piece → nat_eq (get_or piece j 0) 32 ≡ true → ⊥)
    → (k : ℕ) → 0 ≤ k → k < length line → nat_eq (get_or line k 0) 32 ≡ true → ⊥
none_behind line piece n fits is near far k low inside here =
    let rest = long_behind line piece n is in
    behind line n (length piece) k near (λ j bottom small space. far j bottom small (rw rest.0 space)) (omega (arith, rest.1, inside)) here (cases_lt k n)

pub some_behind : (line piece : List ℕ) (n end : ℕ) → n ≤ length line → piece ≡ take (length line - n) (drop n line)
    → ((j : ℕ) → 0 ≤ j → j < n → nat_eq (get_or line j 0) 32 ≡ true → ⊥) → end < length piece
    → ((j : ℕ) → 0 ≤ j → j < end → nat_eq (get_or piece j 0) 32 ≡ true → ⊥) → nat_eq (get_or piece end 0) 32 ≡ true
    → (n + end < length line) × ((k : ℕ) → 0 ≤ k → k < n + end → nat_eq (get_or line k 0) 32 ≡ true → ⊥) × (nat_eq (get_or line (n + end) 0) 32 ≡ true)
some_behind line piece n end fits is near inside far at =
    let rest = long_behind line piece n is in (
      omega (arith, rest.1, inside),
      λ k low small here. behind line n end k near (λ j bottom few space. far j bottom few (rw rest.0 space)) small here (cases_lt k n),
      rw (← get_or-drop n line end 0, ← rest.0) at,
    )

-- one octet more is no space
last : (line : List ℕ) (i k : ℕ) → ((j : ℕ) → 0 ≤ j → j < i → nat_eq (get_or line j 0) 32 ≡ true → ⊥) → (get_or line i 0 ≡ 32 → ⊥)
    → k < i + 1 → nat_eq (get_or line k 0) 32 ≡ true → (k < i) ⊎ (i ≤ k) → ⊥
last line i k before other small here x8 = grind (arith, eqb-true)

pub no_more : (line : List ℕ) (i : ℕ) → ((j : ℕ) → 0 ≤ j → j < i → nat_eq (get_or line j 0) 32 ≡ true → ⊥) → (get_or line i 0 ≡ 32 → ⊥)
    → (k : ℕ) → 0 ≤ k → k < i + 1 → nat_eq (get_or line k 0) 32 ≡ true → ⊥
no_more line i before other k low small here = last line i k before other small here (cases_lt k i)

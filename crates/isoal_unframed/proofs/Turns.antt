-- A ring that is read from a place on.
use Rattle.isoal_unframed.proofs.Prelude.{ℕ, zero, suc, ◌≡◌, ◌+◌, ◌-◌, ◌%◌, ◌<◌, ◌≤◌, ◌⊎◌, cond, ltb, List, [], ◌∷◌, ◌++◌, length, take, drop, set, replicate, get_or, Option, None, refl, sym, ap, ◌∙◌, inl, inr, arith, suc-mod, mod-eq_of_lt, mod_self, mod-lt, cases_Bool, cond-true, cond-false, ltb-true, ltb-false, cases_lt, length-take-le, length-drop, length-append, append-nil, append_assoc, take_at, drop_at, drop-append-le, take-append-le, drop_all, drop-drop, drop-set-add, drop-set-lt, take-set-le, set-append_left, set-append_right, get_or_append_left, get_or-append_right, get_or-drop, get_or-take, length-replicate, Content, turned}

-- the place of an index
abbrev pub position : ℕ → ℕ → ℕ → ℕ
position place index window = cond (ltb (place + index) window) (place + index) (place + index - window)

pub length-turned : (place : ℕ) (kept : List (Option Content)) → place ≤ length kept → length (turned place kept) ≡ length kept
length-turned place kept within = grind (arith, length-drop, length-take-le, length-append)

pub get-turned : (place index : ℕ) (kept : List (Option Content)) → place ≤ length kept → index < length kept
    → get_or (turned place kept) index None ≡ get_or kept (position place index (length kept)) None
get-turned place index kept within below =
    grind (
      arith,
      length-drop,
      cases_Bool,
      ltb-true,
      get_or_append_left,
      get_or-drop,
      cond-true,
      ltb-false,
      get_or-append_right,
      get_or-take,
      cond-false,
    )

-- `take` in front of a write, and a write in front
take-set_low : {A : Type 0} (n i : ℕ) (x : A) (xs : List A) → i < n → take n (set xs i x) ≡ set (take n xs) i x
take-set_low zero i x xs below = absurd (omega arith)
take-set_low (suc n) i x [] below = refl
take-set_low (suc n) zero x (y ∷ xs) below = refl
take-set_low (suc n) (suc i) x (y ∷ xs) below = ap (λ ys. y ∷ ys) (take-set_low n i x xs (omega arith))

pub set-turned : (place index : ℕ) (kept : List (Option Content)) (entry : Option Content) → place ≤ length kept → index < length kept
    → turned place (set kept (position place index (length kept)) entry) ≡ set (turned place kept) index entry
set-turned place index kept entry within below =
    let rest : length (drop place kept) ≡ length kept - place = length-drop place kept in
    elim (cases_Bool (ltb (place + index) (length kept))) [
      | inl low ↦ grind (arith, ltb-true, cond-true, drop-set-add, take-set-le, set-append_left)
      | inr high ↦
          let past : length kept ≤ place + index = ltb-false (place + index) (length kept) high in
          let under : place + index - length kept < place = omega arith in
          let same : place + index - length kept ≡ index - (length kept - place) = omega arith in
          ap (λ i. turned place (set kept i entry)) (cond-false (ltb (place + index) (length kept)) (place + index) (place + index - length kept) high)
          ∙ ap (λ xs. xs ++ take place (set kept (place + index - length kept) entry)) (drop-set-lt place kept (place + index - length kept) entry under)
          ∙ ap (λ xs. drop place kept ++ xs) (take-set_low place (place + index - length kept) entry kept under)
          ∙ ap (λ i. drop place kept ++ set (take place kept) i entry) same
          ∙ sym (set-append_right (drop place kept) (take place kept) (length kept - place) index entry rest (omega arith))
    ]

-- the next event's place
pub next_turn : (event turns : ℕ) → 0 < turns
    → ((event % turns + 1 < turns) × ((event + 1) % turns ≡ event % turns + 1)) ⊎ ((event % turns + 1 ≡ turns) × ((event + 1) % turns ≡ 0))
next_turn event turns some = grind (arith, mod-lt, suc-mod, cases_lt, mod-eq_of_lt, mod_self)

-- the open event's places are emptied, and the ring is read from the next event's place on
pub turned_next : (place bn : ℕ) (was now : List (Option Content)) → place + bn ≤ length was
    → now ≡ take place was ++ (replicate bn None ++ drop (place + bn) was)
    → turned (place + bn) now ≡ drop bn (turned place was) ++ replicate bn None
turned_next place bn was now within is =
    let prefix : length (take place was) ≡ place = length-take-le place was (omega arith) in
    let many : length (replicate {A = Option Content} bn None) ≡ bn = length-replicate bn None in
    let both : length (take place was ++ replicate bn None) ≡ place + bn = length-append (take place was) (replicate bn None) ∙ omega arith in
    let joined : now ≡ (take place was ++ replicate bn None) ++ drop (place + bn) was =
    is ∙ sym (append_assoc (take place was) (replicate bn None) (drop (place + bn) was)) in
    let rest : length (drop place was) ≡ length was - place = length-drop place was in
    ap (turned (place + bn)) joined ∙ ap (λ xs. xs ++ take (place + bn) ((take place was ++ replicate bn None) ++ drop (place + bn) was))
    (drop_at (take place was ++ replicate bn None) (drop (place + bn) was) (place + bn) both)
    ∙ ap (λ xs. drop (place + bn) was ++ xs) (take_at (take place was ++ replicate bn None) (drop (place + bn) was) (place + bn) both)
    ∙ sym (append_assoc (drop (place + bn) was) (take place was) (replicate bn None))
    ∙ ap (λ xs. (xs ++ take place was) ++ replicate bn None) (sym (drop-drop bn place was))
    ∙ ap (λ xs. xs ++ replicate bn None) (sym (drop-append-le bn (drop place was) (take place was) (omega arith)))

pub turned_round : (place bn : ℕ) (was now : List (Option Content)) → place + bn ≡ length was
    → now ≡ take place was ++ (replicate bn None ++ drop (place + bn) was) → turned 0 now ≡ drop bn (turned place was) ++ replicate bn None
turned_round place bn was now full is = grind (arith, length-drop, append-nil, drop_all, drop_at)

-- the first numbers of a ring that is read from a place on
pub take-turned : (place at n : ℕ) (kept : List (Option Content)) → place + (at + n) ≤ length kept
    → take n (drop at (turned place kept)) ≡ take n (drop at (drop place kept))
take-turned place at n kept within = grind (arith, length-drop, drop-append-le, take-append-le)

-- Facts of all items of lists, place by place.
use Rattle.source_machine.proofs.Prelude.{ℕ, ◌≡◌, ◌<◌, ◌≤◌, ◌+◌, suc, List, [], ◌∷◌, ◌++◌, length, get_or, set, take, append_assoc, Some, arith, ◌∙◌, ap, sym, inl, inr, get_or-set_same, get_or-set_other, length-set, Result, AllZip, slice_get, IfErr, IsErrAnd, OnErr, OnOk, get_or_default, map_more, none-some, same_Some, slice_get-get_or, slice_get_past, cases_eq, cases_lt, stale_on, Stale}

pub on_err : {T E P : Type 0} (r : Result T E) → P → OnErr r P
on_err r p = grind arith

pub zip_all : {A : Type 0} (R : A → A → Type 0) (xs ys : List A) → length xs ≡ length ys
    → ((k : ℕ) (none : A) → k < length xs → R (get_or xs k none) (get_or ys k none)) → AllZip R xs ys
zip_all R [] [] same each = tt
zip_all R [] (y ∷ ys) same each = absurd (omega (arith, same))
zip_all R (x ∷ xs) [] same each = absurd (omega (arith, same))
zip_all R (x ∷ xs) (y ∷ ys) same each =
    (each 0 x (omega arith), zip_all R xs ys (omega (arith, same)) (λ k none below. each (suc k) none (omega (arith, below))))

-- one more unit is told
pub stale_more : (bis : ℕ) (times : List ℕ) (i time : ℕ) (told now_told : List Stale) → now_told ≡ told ++ stale_on bis (take i times) → slice_get times i ≡ Some time
    → now_told ++ record { bis = bis; time = time } ∷ [] ≡ told ++ stale_on bis (take (i + 1) times)
stale_more bis times i time told now_told is at =
    let within : i < length times = grind (arith, cases_lt, length, none-some, slice_get_past) in
    let item : get_or times i 0 ≡ time = same_Some (get_or times i 0) time (sym (slice_get-get_or times i 0 within) ∙ at) in
    ap (λ xs. xs ++ record { bis = bis; time = time } ∷ []) is
    ∙ append_assoc told (stale_on bis (take i times)) (record { bis = bis; time = time } ∷ [])
    ∙ ap (λ t. told ++ (stale_on bis (take i times) ++ record { bis = bis; time = t } ∷ [])) (sym item)
    ∙ ap (λ xs. told ++ xs) (sym (map_more (λ t. record { bis = bis; time = t }) times i 0 within))

-- a loop over the items: those before this place are made, the others are as they were
pub each_done : {A : Type 0} (R : A → A → Type 0) (xs ys : List A) (i : ℕ) (new : A) → i < length ys
    → ((k : ℕ) (none : A) → k < i → R (get_or xs k none) (get_or ys k none))
    → ((k : ℕ) (none : A) → i ≤ k → get_or ys k none ≡ get_or xs k none) → (item : A) → R (get_or ys i item) new → (k : ℕ) (none : A)
    → k < i + 1 → R (get_or xs k none) (get_or (set ys i new) k none)
each_done R xs ys i new within done same item made k none below =
    grind (arith, get_or, get_or_default, cases_eq, get_or-set_same, get_or-set_other)

pub rest_same : {A : Type 0} (xs ys : List A) (i : ℕ) (new : A) → ((k : ℕ) (none : A) → i ≤ k → get_or ys k none ≡ get_or xs k none)
    → (k : ℕ) (none : A) → i + 1 ≤ k → get_or (set ys i new) k none ≡ get_or xs k none
rest_same xs ys i new same k none past = get_or-set_other ys i k new none (λ e. omega (arith, e, past)) ∙ same k none (omega (arith, past))

-- the loop ends early, after its item was changed
pub zip_broken : {A : Type 0} (R : A → A → Type 0) (xs ys : List A) (i : ℕ) (new : A) → length ys ≡ length xs → i < length ys
    → ((x : A) → R x x) → ((k : ℕ) (none : A) → k < i → R (get_or xs k none) (get_or ys k none))
    → ((k : ℕ) (none : A) → i ≤ k → get_or ys k none ≡ get_or xs k none)
    → (item : A) → R (get_or ys i item) new → AllZip R xs (set ys i new)
zip_broken R xs ys i new long within none_changes done same item made =
    zip_all R xs (set ys i new) (omega (arith, length-set ys i new)) (λ k none below. elim (cases_lt k (i + 1)) [
      | inl before ↦ each_done R xs ys i new within done same item made k none before
      | inr after ↦ rw (rest_same xs ys i new same k none after) (none_changes (get_or xs k none))
    ])

pub on_err_of : {T E : Type 0} (P : E → Type 0) (r : Result T E) (fault : E) → IsErrAnd r (λ e. e ≡ fault) → P fault → IfErr r P
on_err_of x1 r fault is p = grind arith

pub on_ok : {T E P Q : Type 0} (r : Result T E) → OnOk r P → (P → Q) → OnOk r Q
on_ok r p more = grind arith

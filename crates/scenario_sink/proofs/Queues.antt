-- How many wait of what calls of one kind take one by one.
use Rattle.scenario_sink.proofs.Prelude.{ℕ, zero, suc, ◌≡◌, ◌≤◌, List, [], ◌∷◌, length, drop, slice_get, Some, None, sym, ap, ◌∙◌, arith, Call, repeated, drop_nil, taken_one_by_one}

within : {A : Type 0} (n : ℕ) (xs : List A) (x : A) → slice_get (drop n xs) 0 ≡ Some x → suc n ≤ length xs
within n [] x is = absurd (let none : None ≡ Some x = ap (λ ys. slice_get ys 0) (sym (drop_nil n)) ∙ is in cc)
within zero (y ∷ xs) x is = omega arith
within (suc n) (y ∷ xs) x is = let more = within n xs x is in omega (arith, more)

history : {A : Type 0} (n : ℕ) (xs : List A) → slice_get (drop n xs) 0 ≡ None → length xs ≤ n
history n [] is = omega arith
history zero (y ∷ xs) is = absurd cc
history (suc n) (y ∷ xs) is = let more = history n xs is in omega (arith, more)

-- one more was there, after this many
pub one_more : {A : Type 0} (call : Call) (waiting : List Call → List A) → ((calls : List Call) → waiting (call ∷ calls) ≡ drop 1 (waiting calls))
    → (n : ℕ) (calls : List Call) (x : A) → slice_get (waiting (repeated n call calls)) 0 ≡ Some x → suc n ≤ length (waiting calls)
one_more call waiting each n calls x is = within n (waiting calls) x (ap (λ ys. slice_get ys 0) (sym (taken_one_by_one call waiting each n calls)) ∙ is)

-- these were all
pub no_more : {A : Type 0} (call : Call) (waiting : List Call → List A) → ((calls : List Call) → waiting (call ∷ calls) ≡ drop 1 (waiting calls))
    → (n : ℕ) (calls : List Call) → n ≤ length (waiting calls) → slice_get (waiting (repeated n call calls)) 0 ≡ None → n ≡ length (waiting calls)
no_more call waiting each n calls least is = grind (arith, length, history, slice_get, taken_one_by_one)

-- A set of streams is empty exactly where no stream was put into it.
use Rattle.delegator_history.proofs.Prelude.{ℕ, ◌≡◌, ◌+◌, ◌-◌, ◌≤◌, ◌^◌, suc, false, List, [], ◌∷◌, ◌++◌, length, refl, sym, ◌∙◌, arith, ◌==◌, bit_or, concat, ne_eqb, le_or_l, le_or_r, pow_pos, are_none, set_with, sets_with}

set_grows : (set : ℕ) (streams : List ℕ) → set ≤ set_with set streams
set_grows set [] = omega arith
set_grows set (bis ∷ streams) = omega (arith, le_or_l set (2 ^ (bis - 1)), set_grows (bit_or set (2 ^ (bis - 1))) streams)

sets_grow : (set : ℕ) (lists : List (List ℕ)) → set ≤ sets_with set lists
sets_grow set [] = omega arith
sets_grow set (streams ∷ others) = omega (arith, set_grows set streams, sets_grow (set_with set streams) others)

-- a stream that is put into it is in the set
some_set : (bis : ℕ) (streams : List ℕ) (others : List (List ℕ)) → (sets_with 0 ((bis ∷ streams) ∷ others) == 0) ≡ false
some_set bis streams others = grind (arith, bit_or, sets_with, set_with, pow_pos, le_or_r, set_grows, sets_grow, ne_eqb)

pub none_set : (lists : List (List ℕ)) → are_none lists ≡ (sets_with 0 lists == 0)
none_set [] = refl
none_set ([] ∷ others) = none_set others
none_set ((bis ∷ streams) ∷ others) = ne_eqb (suc (length (streams ++ concat others))) 0 (λ e. omega (arith, e)) ∙ sym (some_set bis streams others)

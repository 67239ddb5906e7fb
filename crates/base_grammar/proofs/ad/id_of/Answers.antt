use Rattle.base_grammar.proofs.Prelude.{◌≡◌, ℕ, ◌≤◌, List, [], ◌∷◌, Some, length, take, get_or, refl, ap, arith, le-ltb}
use Rattle.base_grammar.proofs.ad.id_of.Goals as goal

first_three : (xs : List ℕ) → 3 ≤ length xs → get_or xs 0 0 ∷ get_or xs 1 0 ∷ get_or xs 2 0 ∷ [] ≡ take 3 xs
first_three (a ∷ b ∷ c ∷ rest) long = refl
first_three xs long = absurd (omega (arith, long))

pub returns-in-len3-up : goal.returns-in-len3-up
returns-in-len3-up c = rw (le-ltb _ 3 c.in-len3-up.len_at_least) (ap (λ (xs : List ℕ). Some xs) (first_three c.args.content.now c.in-len3-up.len_at_least))

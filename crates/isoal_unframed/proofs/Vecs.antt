-- A vector of which a part was written.
use Rattle.isoal_unframed.proofs.Prelude.{ℕ, ◌≡◌, ◌+◌, ◌-◌, ◌≤◌, List, ◌++◌, length, take, drop, ap, sym, subst, ◌∙◌, arith, copy_within, with_items, append_assoc, with_items_is, drop-drop, length-append, length-take-le, length-drop, take-append-drop}
use Rattle.std.specs.Global.{Vec}

pub mid_is : {X : Type 0} (v : Vec X) (a k n : ℕ) (xs ys zs : List X) → xs ≡ v.items → ys ≡ zs → length zs ≡ n → k ≡ n → a + n ≤ v.len
    → (with_items v (take a xs ++ (ys ++ drop k (drop a xs)))).items ≡ take a v.items ++ (zs ++ drop (a + n) v.items)
mid_is v a k n xs ys zs is_xs is_ys count same within = grind (arith, drop-drop, length-take-le, length-drop, length-append, with_items_is)

-- octets that are moved to where they stand
pub moved_nowhere : {X : Type 0} (xs : List X) (from count to : ℕ) → from ≡ to → xs ≡ copy_within xs from (from + count) to
moved_nowhere xs from count to here =
    let many : from + count - from ≡ count = omega arith in
    let there : take from xs ++ take (from + count - from) (drop from xs) ++ drop (from + (from + count - from)) xs ≡ xs =
    ap (λ n. take from xs ++ take n (drop from xs) ++ drop (from + n) xs) many
    ∙ ap (λ ys. take from xs ++ take count (drop from xs) ++ ys) (sym (drop-drop count from xs))
    ∙ append_assoc (take from xs) (take count (drop from xs)) (drop count (drop from xs))
    ∙ ap (λ ys. take from xs ++ ys) (take-append-drop count (drop from xs)) ∙ take-append-drop from xs in
    subst (λ n. xs ≡ copy_within xs from (from + count) n) here (sym there)

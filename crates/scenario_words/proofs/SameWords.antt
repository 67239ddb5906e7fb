-- Two words are compared octet by octet.
use Rattle.scenario_words.proofs.Prelude.{◌≡◌, ◌≤◌, ◌<◌, ◌+◌, ℕ, suc, Bool, true, false, ◌&&◌, nat_eq, List, [], ◌∷◌, length, get_or, drop, refl, sym, ap, eqb-true, eq-eqb, drop_more, drop_all, bytes_eq, arith}
use Rattle.scenario_words.proofs.Splitting.{refused}

and_false : (a b : Bool) → b ≡ false → (a && b) ≡ false
and_false a b e = grind arith

pub other_length : (word name : List ℕ) → (length word ≡ length name → ⊥) → bytes_eq word name ≡ false
other_length [] [] other = absurd (other refl)
other_length [] (y ∷ name) other = refl
other_length (x ∷ word) [] other = refl
other_length (x ∷ word) (y ∷ name) other = and_false _ _ (other_length word name (λ same. other (ap suc same)))

pub same_octet : (word name : List ℕ) (i : ℕ) → i < length word → i < length name → get_or word i 0 ≡ get_or name i 0
    → bytes_eq (drop i word) (drop i name) ≡ bytes_eq word name → bytes_eq (drop (i + 1) word) (drop (i + 1) name) ≡ bytes_eq word name
same_octet word name i in_word in_name e so_far = grind (arith, bytes_eq, drop, eq-eqb, get_or, drop_more)

pub other_octet : (word name : List ℕ) (i : ℕ) → i < length word → i < length name → (get_or word i 0 ≡ get_or name i 0 → ⊥)
    → bytes_eq (drop i word) (drop i name) ≡ bytes_eq word name → bytes_eq word name ≡ false
other_octet word name i in_word in_name other so_far = grind (arith, drop_more, bytes_eq, drop, refused, nat_eq, get_or, eqb-true)

pub same_word : (word name : List ℕ) (i : ℕ) → length word ≤ i → length name ≤ i → bytes_eq (drop i word) (drop i name) ≡ bytes_eq word name → bytes_eq word name ≡ true
same_word word name i all_word all_name so_far = sym (rw (drop_all i word all_word, drop_all i name all_name) at so_far)

-- The unit of a slot from left to right is the unit of the slot.
use Rattle.isoal_unframed.proofs.Prelude.{inl, inr, ℕ, ◌≡◌, ◌≤◌, true, leb, List, [], ◌∷◌, ◌++◌, length, map, Option, Some, None, refl, sym, ap, ◌∙◌, subst, arith, concat, cond-true, leb-true, le-leb, none-some, cond_some, append_assoc, Content, end, fragment, IsUnit, unit_after, unit_of, cases_option}

-- a unit behind a prefix
record IsUnitAfter (max_sdu : ℕ) (prefix : List ℕ) (slot : List (Option Content)) (octets : List ℕ) : Type 0 where
  fragments : List (List ℕ)
  last : List ℕ
  others : List (Option Content)
  slot_is : slot ≡ map (λ part. Some (fragment part)) fragments ++ Some (end last) ∷ others
  octets_are : octets ≡ prefix ++ (concat fragments ++ last)
  fits : length octets ≤ max_sdu

after_read : (max_sdu : ℕ) (prefix : List ℕ) (slot : List (Option Content)) (octets : List ℕ)
    → unit_after max_sdu prefix slot ≡ Some octets → IsUnitAfter max_sdu prefix slot octets
after_read max_sdu prefix (Some (end part) ∷ slot) octets is =
    let both : (leb (length (prefix ++ part)) max_sdu ≡ true) × (prefix ++ part ≡ octets) =
    cond_some (leb (length (prefix ++ part)) max_sdu) (prefix ++ part) octets is in
    record {
      fragments = [];
      last = part;
      others = slot;
      slot_is = refl;
      octets_are = sym both.1;
      fits = subst (λ xs. length xs ≤ max_sdu) both.1 (leb-true (length (prefix ++ part)) max_sdu both.0);
    }
after_read max_sdu prefix (Some (fragment part) ∷ slot) octets is =
    let rest : IsUnitAfter max_sdu (prefix ++ part) slot octets = after_read max_sdu (prefix ++ part) slot octets is in
    record {
      fragments = part ∷ rest.fragments;
      last = rest.last;
      others = rest.others;
      slot_is = ap (λ xs. Some (fragment part) ∷ xs) rest.slot_is;
      octets_are = grind (arith, append_assoc);
      fits = rest.fits;
    }
after_read max_sdu prefix slot octets is = search (none-some, cond_some, leb-true, append_assoc)

read_after : (max_sdu : ℕ) (prefix : List ℕ) (fragments : List (List ℕ)) (last : List ℕ) (others : List (Option Content))
    → length (prefix ++ (concat fragments ++ last)) ≤ max_sdu
    → unit_after max_sdu prefix (map (λ part. Some (fragment part)) fragments ++ Some (end last) ∷ others) ≡ Some (prefix ++ (concat fragments ++ last))
read_after max_sdu prefix [] last others fits = grind (arith, cond-true, le-leb)
read_after max_sdu prefix (part ∷ fragments) last others fits =
    let same : (prefix ++ part) ++ (concat fragments ++ last) ≡ prefix ++ ((part ++ concat fragments) ++ last) =
    append_assoc prefix part (concat fragments ++ last) ∙ ap (λ xs. prefix ++ xs) (sym (append_assoc part (concat fragments) last)) in
    read_after max_sdu (prefix ++ part) fragments last others (subst (λ xs. length xs ≤ max_sdu) (sym same) fits) ∙ ap Some same

pub unit_is : (max_sdu : ℕ) (slot : List (Option Content)) (octets : List ℕ)
    → unit_of max_sdu slot ≡ Some octets → IsUnit max_sdu slot octets
unit_is max_sdu slot octets is =
    let all : IsUnitAfter max_sdu [] slot octets = after_read max_sdu [] slot octets is in
    record {
      fragments = all.fragments;
      last = all.last;
      others = all.others;
      slot_is = all.slot_is;
      octets_are = all.octets_are;
      fits = all.fits;
    }

pub is_unit : (max_sdu : ℕ) (slot : List (Option Content)) (octets : List ℕ)
    → IsUnit max_sdu slot octets → unit_of max_sdu slot ≡ Some octets
is_unit max_sdu slot octets is = grind (arith, read_after)

pub no_unit : (max_sdu : ℕ) (slot : List (Option Content)) → unit_of max_sdu slot ≡ None → (octets : List ℕ) → ¬ IsUnit max_sdu slot octets
no_unit max_sdu slot none octets is = none-some octets (sym none ∙ is_unit max_sdu slot octets is)

pub unit_none : (max_sdu : ℕ) (slot : List (Option Content)) → ((octets : List ℕ) → ¬ IsUnit max_sdu slot octets) → unit_of max_sdu slot ≡ None
unit_none max_sdu slot never = elim (cases_option (unit_of max_sdu slot)) [
  | inl none ↦ none
  | inr some ↦ absurd (never some.0 (unit_is max_sdu slot some.0 some.1))
]

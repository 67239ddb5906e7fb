-- What is held of a slot from left to right is the longest prefix.
use Rattle.isoal_unframed.proofs.Prelude.{inl, inr, ℕ, ◌≡◌, ◌+◌, ◌-◌, ◌≤◌, cond, leb, List, [], ◌∷◌, ◌++◌, length, map, Option, Some, None, refl, sym, ap, ◌∙◌, subst, arith, cases_Bool, cond-true, cond-false, leb-true, le-leb, none-some, same_Some, Content, end, fragment, framed, control, IsPrefix, IsHeld, count_in, held_in}

abbrev tail_of : List (Option Content) → List (Option Content)
tail_of [] = []
tail_of (x ∷ xs) = xs

abbrev head_of : List (Option Content) → Option Content
head_of [] = None
head_of (x ∷ xs) = x

-- the longest prefix, from left to right
prefix_of : ℕ → List (Option Content) → List Content
prefix_of room [] = []
prefix_of room (None ∷ slot) = []
prefix_of room (Some (end part) ∷ slot) = cond (leb (length part) room) (end part ∷ []) []
prefix_of room (Some (fragment part) ∷ slot) = cond (leb (length part) room) (fragment part ∷ prefix_of (room - length part) slot) []
prefix_of room (Some (framed parts) ∷ slot) = []
prefix_of room (Some (control part) ∷ slot) = []

no_prefix : (room : ℕ) (slot : List (Option Content)) → IsPrefix room slot []
no_prefix room slot = record { others = slot; slot_is = refl; ends_last = tt; fits = omega arith }

prefix_is : (room : ℕ) (slot : List (Option Content)) → IsPrefix room slot (prefix_of room slot)
unfolding prefix_of
prefix_is room (Some (end part) ∷ slot) = elim (cases_Bool (leb (length part) room)) [
  | inl fits ↦
      let within : length part ≤ room = leb-true (length part) room fits in
      subst (IsPrefix room (Some (end part) ∷ slot)) (sym (cond-true (leb (length part) room) (end part ∷ []) [] fits))
      (record { others = slot; slot_is = refl; ends_last = refl; fits = omega arith })
  | inr past ↦ grind (arith, cond-false, no_prefix)
]
prefix_is room (Some (fragment part) ∷ slot) = elim (cases_Bool (leb (length part) room)) [
  | inl fits ↦
      let within : length part ≤ room = leb-true (length part) room fits in
      let rest : IsPrefix (room - length part) slot (prefix_of (room - length part) slot) = prefix_is (room - length part) slot in
      let left : count_in (prefix_of (room - length part) slot) ≤ room - length part = rest.fits in
      subst (IsPrefix room (Some (fragment part) ∷ slot))
      (sym (cond-true (leb (length part) room) (fragment part ∷ prefix_of (room - length part) slot) [] fits))
      (record { others = rest.others; slot_is = ap (λ xs. Some (fragment part) ∷ xs) rest.slot_is; ends_last = rest.ends_last; fits = omega arith })
  | inr past ↦ grind (arith, cond-false, prefix_of, no_prefix)
]
prefix_is room slot = search (no_prefix, cases_Bool, leb-true, cond-true, cond-false, prefix_of)

-- the first part of a prefix that is not empty is what the slot keeps first
head_is : (room : ℕ) (kept : Option Content) (slot : List (Option Content)) (part : Content) (parts : List Content)
    → IsPrefix room (kept ∷ slot) (part ∷ parts) → kept ≡ Some part
head_is room kept slot part parts prefix = ap head_of prefix.slot_is

tail_is : (room : ℕ) (kept : Option Content) (slot : List (Option Content)) (octets : List ℕ) (parts : List Content)
    → IsPrefix room (kept ∷ slot) (fragment octets ∷ parts) → IsPrefix (room - length octets) slot parts
tail_is room kept slot octets parts prefix = grind arith

longest_end : (room : ℕ) (octets : List ℕ) (slot : List (Option Content)) (parts : List Content) → parts ≡ [] → length octets ≤ room
    → length (end octets ∷ parts) ≤ length (prefix_of room (Some (end octets) ∷ slot))
unfolding prefix_of
longest_end room octets slot parts none fits = grind (arith, cond-true, le-leb)

longest_more : (room : ℕ) (octets : List ℕ) (slot : List (Option Content)) (parts : List Content) → length octets ≤ room
    → length parts ≤ length (prefix_of (room - length octets) slot)
    → length (fragment octets ∷ parts) ≤ length (prefix_of room (Some (fragment octets) ∷ slot))
unfolding prefix_of
longest_more room octets slot parts fits rest = grind (arith, cond-true, prefix_of, le-leb)

longest : (room : ℕ) (slot : List (Option Content)) (other : List Content) → IsPrefix room slot other → length other ≤ length (prefix_of room slot)
longest room slot [] prefix = omega arith
longest room [] (end octets ∷ parts) prefix = absurd (none-some (end octets) (ap head_of prefix.slot_is))
longest room [] (fragment octets ∷ parts) prefix = absurd (none-some (fragment octets) (ap head_of prefix.slot_is))
longest room (Some kept ∷ slot) (end octets ∷ parts) prefix = grind (arith, same_Some, head_is, prefix_of, longest_end)
longest room (Some kept ∷ slot) (fragment octets ∷ parts) prefix = grind (arith, same_Some kept (fragment octets) (head_is room (Some kept) slot (fragment octets) parts prefix), prefix.fits, longest_more room octets slot parts (omega arith) (longest (room - length octets) slot parts (tail_is room (Some kept) slot octets parts prefix)))
longest room slot other prefix = search (none-some, head_is, same_Some, prefix_of, longest_end, longest_more, tail_is)

held_count : (room : ℕ) (slot : List (Option Content)) → held_in room slot ≡ count_in (prefix_of room slot)
unfolding prefix_of
held_count room (Some (end part) ∷ slot) = grind (arith, cases_Bool, cond-true, cond-false)
held_count room (Some (fragment part) ∷ slot) = elim (cases_Bool (leb (length part) room)) [
  | inl fits ↦ cond-true (leb (length part) room) (length part + held_in (room - length part) slot) 0 fits
      ∙ ap (λ n. length part + n) (held_count (room - length part) slot)
      ∙ ap count_in (sym (cond-true (leb (length part) room) (fragment part ∷ prefix_of (room - length part) slot) [] fits))
  | inr past ↦ grind (arith, cond-false, prefix_of)
]
held_count room slot = search (cases_Bool, cond-true, cond-false, prefix_of)

pub held_is_longest : (room : ℕ) (slot : List (Option Content)) (octets : ℕ) → octets ≡ held_in room slot → IsHeld room slot octets
held_is_longest room slot octets is = grind (arith, prefix_of, prefix_is, longest, held_count)

-- two prefixes of one length are one
same_prefix : (a b : List Content) (x y : List (Option Content)) → map Some a ++ x ≡ map Some b ++ y → length a ≡ length b → a ≡ b
same_prefix [] [] x y same count = refl
same_prefix [] (part ∷ b) x y same count = absurd (omega arith)
same_prefix (part ∷ a) [] x y same count = absurd (omega arith)
same_prefix (part ∷ a) (other ∷ b) x y same count =
    ap (λ p. p ∷ a) (same_Some part other (ap head_of same)) ∙ ap (λ ps. other ∷ ps) (same_prefix a b x y (ap tail_of same) (omega arith))

pub longest_is_held : (room : ℕ) (slot : List (Option Content)) (octets : ℕ) → IsHeld room slot octets → octets ≡ held_in room slot
longest_is_held room slot octets held = grind (arith, prefix_of, prefix_is, longest, same_prefix, held_count)

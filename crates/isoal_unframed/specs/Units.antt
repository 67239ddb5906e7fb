-- The unit of a slot of an unframed stream (Core 5.2, volume 6 part G, section 2.1), from what is kept of the slot's
-- payload numbers, in order.
use Rattle.std.specs.Prelude.{ℕ, ◌+◌, ◌-◌, ◌≤◌, ◌≡◌, nat_le, List, [], ◌∷◌, ◌++◌, length, map, Option, Some, None, if◌then◌else◌}
use Rattle.std.specs.List.{concat}
use Rattle.iso_pdu.specs.Layout.{Content, end, fragment, framed, control}

abbrev pub unframed : Content → Option Content
unframed (end octets) = Some (end octets)
unframed (fragment octets) = Some (fragment octets)
unframed _ = None

-- the first f - 1 numbers are kept as fragments and the f-th as an end, and these parts together are the octets
pub record IsUnit (max_sdu : ℕ) (slot : List (Option Content)) (octets : List ℕ) : Type 0 where
  pub fragments : List (List ℕ)
  pub last : List ℕ
  pub others : List (Option Content)
  pub slot_is : slot ≡ map (λ part. Some (fragment part)) fragments ++ Some (end last) ∷ others
  pub octets_are : octets ≡ concat fragments ++ last
  pub fits : length octets ≤ max_sdu

-- the same from left to right, behind a prefix that is read already
abbrev pub unit_after : ℕ → List ℕ → List (Option Content) → Option (List ℕ)
unit_after max_sdu prefix (Some (end part) ∷ slot) = if nat_le (length (prefix ++ part)) max_sdu then Some (prefix ++ part) else None
unit_after max_sdu prefix (Some (fragment part) ∷ slot) = unit_after max_sdu (prefix ++ part) slot
unit_after max_sdu prefix _ = None

abbrev pub unit_of : ℕ → List (Option Content) → Option (List ℕ)
unit_of max_sdu slot = unit_after max_sdu [] slot

-- the octets of fragments and ends
abbrev pub octets_in : Content → List ℕ
octets_in (end octets) = octets
octets_in (fragment octets) = octets
octets_in (framed parts) = []
octets_in (control octets) = []

-- how many octets parts have together
abbrev pub count_in : List Content → ℕ
count_in [] = 0
count_in (part ∷ parts) = length (octets_in part) + count_in parts

-- fragments, and an end at most in the last place
abbrev pub EndsLast : List Content → Type 0
EndsLast [] = Unit {0}
EndsLast (fragment octets ∷ parts) = EndsLast parts
EndsLast (end octets ∷ parts) = parts ≡ []
EndsLast (framed segments ∷ parts) = ⊥
EndsLast (control octets ∷ parts) = ⊥

-- a prefix of a slot's numbers that are kept, with an end at most in the last place and at most so many octets
pub record IsPrefix (max_sdu : ℕ) (slot : List (Option Content)) (parts : List Content) : Type 0 where
  pub others : List (Option Content)
  pub slot_is : slot ≡ map Some parts ++ others
  pub ends_last : EndsLast parts
  pub fits : count_in parts ≤ max_sdu

-- Held of a slot: the octets of the longest such prefix
pub record IsHeld (max_sdu : ℕ) (slot : List (Option Content)) (octets : ℕ) : Type 0 where
  pub prefix : List Content
  pub is_prefix : IsPrefix max_sdu slot prefix
  pub longest : (other : List Content) → IsPrefix max_sdu slot other → length other ≤ length prefix
  pub octets_are : octets ≡ count_in prefix

-- the same from left to right
abbrev pub held_in : ℕ → List (Option Content) → ℕ
held_in room [] = 0
held_in room (None ∷ slot) = 0
held_in room (Some (end part) ∷ slot) = if nat_le (length part) room then length part else 0
held_in room (Some (fragment part) ∷ slot) = if nat_le (length part) room then length part + held_in (room - length part) slot else 0
held_in room (Some (framed parts) ∷ slot) = 0
held_in room (Some (control part) ∷ slot) = 0

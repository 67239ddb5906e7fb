-- Octets that end within a field of a list, and what is read of them.
use Rattle.receive_state.proofs.Prelude.{◌≡◌, ℕ, zero, suc, ◌+◌, ◌-◌, ◌<◌, true, ltb, List, [], ◌∷◌, ◌++◌, length, take, drop, None, refl, sym, ap, ◌∙◌, append_assoc, arith, ◌⊎◌, length-append, Field, laid, octet_in, octets_in, IsOctets, EndsIn, lt-ltb, ltb-true}

pub ends_here : (field : Field) (fields : List Field) (part more : List ℕ) → field.octets ≡ part ++ more → 0 < length more → EndsIn 0 (field ∷ fields) part
ends_here field fields part more e lt = ([], field, fields, part, more, refl, e, lt, refl, refl)

pub ends_more : (field : Field) (fields : List Field) (place : ℕ) (octets : List ℕ) → EndsIn place fields octets → EndsIn (length field.octets + place) (field ∷ fields) (field.octets ++ octets)
ends_more field fields place octets e = (
  field ∷ e.0,
  e.1,
  e.2,
  e.3,
  e.4,
  ap (λ (x : List Field). field ∷ x) e.5,
  e.6,
  e.7,
  ap (λ (x : List ℕ). field.octets ++ x) e.8 ∙ sym (append_assoc field.octets (laid e.0) e.3),
  ap (λ (n : ℕ). length field.octets + n) e.9 ∙ sym (length-append field.octets (laid e.0)),
)

-- they end in the first field, or in one behind it
abbrev pub Split : Field → List Field → ℕ → List ℕ → Type 0
Split field fields place octets =
    ((place ≡ 0) × (length octets < length field.octets))
    ⊎ ((q : ℕ) × (rest : List ℕ) × (place ≡ length field.octets + q) × (octets ≡ field.octets ++ rest) × EndsIn q fields rest)

split_at : (first : Field) (fields prefix : List Field) (field : Field) (back : List Field) (part more octets : List ℕ) (place : ℕ) → first ∷ fields ≡ prefix ++ field ∷ back
    → field.octets ≡ part ++ more → 0 < length more
    → octets ≡ laid prefix ++ part → place ≡ length (laid prefix) → Split first fields place octets
split_at first fields [] field back part more octets place e o lt parts p = grind (arith, length, length-append)
split_at first fields (other ∷ prefix) field back part more octets place e o lt parts p = grind (arith, laid, append_assoc, length, length-append)

pub ends_split : (first : Field) (fields : List Field) (place : ℕ) (octets : List ℕ) → EndsIn place (first ∷ fields) octets → Split first fields place octets
ends_split first fields place octets e = split_at first fields e.0 e.1 e.2 e.3 e.4 octets place e.5 e.6 e.7 e.8 e.9

nowhere : (prefix : List Field) (field : Field) (back : List Field) → [] ≡ prefix ++ field ∷ back → ⊥
nowhere [] field back e = cc
nowhere (other ∷ prefix) field back e = cc

pub ends_nowhere : (place : ℕ) (octets : List ℕ) → EndsIn place [] octets → ⊥
ends_nowhere place octets e = nowhere e.0 e.1 e.2 e.5

-- ---- what is read of octets that are fewer than the field

pub no_octet : (octets : List ℕ) → length octets < 1 → octet_in octets ≡ None
no_octet octets lt = grind arith

pub no_octets : (k : ℕ) (octets : List ℕ) → length octets < k → octets_in k octets ≡ None
no_octets k octets lt = let short : ltb (length octets) k ≡ true = lt-ltb (length octets) k lt in rw short refl

pub octet_short : (octets : List ℕ) → octet_in octets ≡ None → octets ≡ []
octet_short octets e = grind arith

pub octets_short : (k : ℕ) (octets : List ℕ) → octets_in k octets ≡ None → length octets < k
octets_short k octets e = grind (arith, ltb-true, length, ltb, take, drop)

-- so many zeros
unfoldable pub zeros : ℕ → List ℕ
zeros zero = []
zeros (suc n) = 0 ∷ zeros n

pub length-zeros : (n : ℕ) → length (zeros n) ≡ n
unfolding zeros
length-zeros zero = refl
length-zeros (suc n) = ap (λ m. suc m) (length-zeros n)

pub zeros_octets : (n : ℕ) → IsOctets (zeros n)
unfolding zeros
zeros_octets zero i = omega arith
zeros_octets (suc n) zero = omega arith
zeros_octets (suc n) (suc i) = zeros_octets n i

pub octets_with : (octets : List ℕ) (n : ℕ) → IsOctets octets → IsOctets (octets ++ zeros n)
octets_with [] n h i = zeros_octets n i
octets_with (octet ∷ octets) n h zero = h 0
octets_with (octet ∷ octets) n h (suc i) = octets_with octets n (λ j. h (suc j)) i

-- octets filled up to so many
abbrev pub filled : ℕ → List ℕ → List ℕ
filled k octets = octets ++ zeros (k - length octets)

pub length-filled : (k : ℕ) (octets : List ℕ) → length octets < k → length (filled k octets) ≡ k
length-filled k octets lt = omega (arith, length-append octets (zeros (k - length octets)), length-zeros (k - length octets))

pub more-zeros : (k : ℕ) (octets : List ℕ) → length octets < k → 0 < length (zeros (k - length octets))
more-zeros k octets lt = omega (arith, length-zeros (k - length octets))

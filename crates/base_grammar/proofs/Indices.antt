-- Which indices stand before, as the code asks for them and as reading does.
use Rattle.base_grammar.proofs.Prelude.{◌≡◌, ◌==◌, ℕ, Bool, ◌||◌, List, [], ◌∷◌, ◌++◌, map, refl, ap, list_any, list_any-append, flat_map-cons, BaseEntry, Subgroup, bis_of, indices, stands_in, arith}

-- one of the entries has the index
abbrev pub in_entries : ℕ → List BaseEntry → Bool
in_entries bis entries = list_any (λ e. e.bis == bis) entries

abbrev pub in_subgroups : ℕ → List Subgroup → Bool
in_subgroups bis subgroups = list_any (λ s. in_entries bis s.entries) subgroups

pub in_entries-is : (bis : ℕ) (entries : List BaseEntry) → in_entries bis entries ≡ stands_in (map bis_of entries) bis
in_entries-is bis [] = refl
in_entries-is bis (e ∷ entries) = ap (λ (b : Bool). (e.bis == bis) || b) (in_entries-is bis entries)

pub in_subgroups-is : (bis : ℕ) (subgroups : List Subgroup) → in_subgroups bis subgroups ≡ stands_in (indices subgroups) bis
in_subgroups-is bis [] = refl
in_subgroups-is bis (s ∷ subgroups) = grind (arith, in_entries-is bis s.entries, in_subgroups-is bis subgroups, list_any-append (λ b. b == bis) (map bis_of s.entries) (indices subgroups), flat_map-cons (λ (x : Subgroup). map bis_of x.entries) s subgroups)

pub stands-both : (bis : ℕ) (subgroups : List Subgroup) (entries : List BaseEntry)
    → (in_subgroups bis subgroups || in_entries bis entries) ≡ stands_in (indices subgroups ++ map bis_of entries) bis
stands-both bis subgroups entries = grind (arith, in_subgroups-is, stands_in, indices, in_entries-is, list_any-append, map, bis_of)

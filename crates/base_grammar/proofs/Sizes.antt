-- Spellings of the items of a list, one after the other, as a loop goes over them.
use Rattle.base_grammar.proofs.Prelude.{◌≡◌, ℕ, ◌+◌, ◌<◌, ◌≤◌, List, [], ◌∷◌, length, get_or, take, Option, None, ap, arith, flat_map, SomeIff, length-append, flat_map-cons, length-flat_map-take, number, number-length, BaseEntry, Subgroup, Endpoint, entry, subgroup, encoding}

-- an item is no longer than all of them
pub item_small : {X : Type 0} (f : X → List ℕ) (xs : List X) (i n : ℕ) (x : X) → i < length xs → x ≡ get_or xs i x → length (flat_map f xs) ≤ n → length (f x) ≤ n
item_small f xs i n x lt is h = grind (arith, length, get_or, length-flat_map-take)

-- ---- the room that is left

pub no_room : {X : Type 0} (f : X → List ℕ) (xs : List X) (i room left : ℕ) (x : X) → i < length xs → x ≡ get_or xs i x → left + length (flat_map f (take i xs)) ≡ room
    → (length (f x) ≤ left → ⊥) → length (flat_map f xs) ≤ room → ⊥
no_room f xs i room left x lt is e none h = grind (arith, length, get_or, length-flat_map-take)

-- ---- counts

pub entries_few : (es : List BaseEntry) → length es ≤ length (flat_map entry es)
entries_few [] = omega arith
entries_few (e ∷ es) = omega (arith, ap length (flat_map-cons entry e es), length-append (entry e) (flat_map entry es), entries_few es)

pub subgroups_few : (ss : List Subgroup) → length ss ≤ length (flat_map subgroup ss)
subgroups_few [] = omega arith
subgroups_few (s ∷ ss) = omega (arith, ap length (flat_map-cons subgroup s ss), length-append (subgroup s) (flat_map subgroup ss), subgroups_few ss)

pub length-subgroup : (s : Subgroup) → length (subgroup s) ≡ 3 + length s.codec + length s.config + length s.metadata + length (flat_map entry s.entries)
length-subgroup s = grind (arith, length-append, length, flat_map, entry)

pub length-encoding : (v : Endpoint) → length (encoding v) ≡ 4 + length (flat_map subgroup v.subgroups)
length-encoding v = omega (arith, length-append (number 3 v.delay) (length v.subgroups ∷ flat_map subgroup v.subgroups), number-length 3 v.delay)

pub none_if : {A : Type 0} (o : Option A) (P : Type 0) (v : A) → o ≡ None → ¬ P → SomeIff o P v
none_if o x2 v e h = grind arith

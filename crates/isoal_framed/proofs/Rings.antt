-- The places of a window: filled with empty ones, cleared one by one, and turned.
use Rattle.isoal_framed.proofs.Prelude.{is_some, true, Some, subst, false≢true, lt-ltb, ℕ, ◌≡◌, ◌+◌, ◌-◌, ◌<◌, List, [], ◌∷◌, ◌++◌, map, length, take, drop, replicate, get_or, Option, None, inl, inr, refl, sym, ap, ◌∙◌, arith, append_assoc, length-append, flat_map, slice_get, none-some, map-append, drop-map, length-map, length-replicate, replicate-append-replicate, take-append-drop, read_as, segmented, drop_more_same, drop_more, drop-set-lt, get_or-drop, get_or-set_same, length-set, take-map, take-set, take_more, All-push, get_or_from_slice_get, slice_get_cases, All, IsPduOrNothing}
use Rattle.std.proofs.Math.ListN.{set}
use Rattle.circular_buffer.specs.Buffer.{keep_last}
use Rattle.iso_pdu.specs.Reading.{read_of}

empty : (max_pdu : ℕ) → read_as segmented max_pdu [] ≡ None
unfolding read_of
empty max_pdu = refl

-- no octets are no PDU
pub nothing_read : (max_pdu : ℕ) (octets : List ℕ) → octets ≡ [] → read_as segmented max_pdu octets ≡ None
nothing_read max_pdu octets none = ap (read_as segmented max_pdu) none ∙ empty max_pdu

-- an item is put behind others that leave room for it
pub kept_last : {A : Type 0} (items : List A) (item : A) (capacity : ℕ) → length items < capacity → keep_last capacity (items ++ item ∷ []) ≡ items ++ item ∷ []
kept_last items item capacity room = grind (arith, length-append)

pub filled_more : {A B : Type 0} (entry : A → Option B) (items : List A) (item : A) (capacity n : ℕ) → map entry items ≡ replicate n None
    → n < capacity → entry item ≡ None → map entry (keep_last capacity (items ++ item ∷ [])) ≡ replicate (n + 1) None
filled_more entry items item capacity n before below here =
    let count : length items ≡ n = sym (length-map items entry) ∙ ap length before ∙ length-replicate n None in
    ap (map entry) (kept_last items item capacity (omega arith)) ∙ map-append entry items (item ∷ [])
    ∙ ap (λ xs. xs ++ entry item ∷ []) before ∙ ap (λ x. replicate n None ++ x ∷ []) here ∙ replicate-append-replicate n 1 None

pub filled_count : {A B : Type 0} (entry : A → Option B) (items : List A) (n : ℕ) → map entry items ≡ replicate n None → length items ≡ n
filled_count entry items n is = sym (length-map items entry) ∙ ap length is ∙ length-replicate n None

-- an item below the length is there
pub not_there : {A : Type 0} (items : List A) (index : ℕ) → index < length items → slice_get items index ≡ None → ⊥
not_there items index below none = elim (slice_get_cases items index).1 [
  | inl there ↦ none-some there.0 (sym none ∙ there.2)
  | inr past ↦ absurd (omega arith)
]

-- ---- a ring whose first places were put at the end

as_many : {A : Type 0} (was now : List A) (n : ℕ) → now ≡ drop n was ++ take n was → length now ≡ length was
as_many was now n is =
    omega (arith, ap length is, length-append (drop n was) (take n was), ap length (take-append-drop n was), length-append (take n was) (drop n was))

pub none_out : {A : Type 0} (was now : List A) (n : ℕ) → now ≡ drop n was ++ take n was → n < length was → slice_get now 0 ≡ None → ⊥
none_out was now n is below none = not_there now 0 (omega (arith, as_many was now n is)) none

-- one more is put at the end
pub turned_more : {A : Type 0} (was now : List A) (n capacity : ℕ) (item : A) → now ≡ drop n was ++ take n was → n < length was → length was ≡ capacity
    → slice_get now 0 ≡ Some item → keep_last capacity (drop 1 now ++ item ∷ []) ≡ drop (n + 1) was ++ take (n + 1) was
turned_more was now n capacity item before below full first =
    let split : now ≡ get_or was n item ∷ (drop (n + 1) was ++ take n was) = before ∙ ap (λ xs. xs ++ take n was) (drop_more was n item below) in
    let same : get_or was n item ≡ item = sym (ap (λ xs. get_or xs 0 item) split) ∙ get_or_from_slice_get now 0 item item first in
    ap (λ xs. keep_last capacity (drop 1 xs ++ item ∷ [])) split
    ∙ kept_last (drop (n + 1) was ++ take n was) item capacity (omega (arith, ap length split, as_many was now n before))
    ∙ append_assoc (drop (n + 1) was) (take n was) (item ∷ []) ∙ ap (λ x. drop (n + 1) was ++ (take n was ++ x ∷ [])) (sym same)
    ∙ ap (λ xs. drop (n + 1) was ++ xs) (sym (take_more was n item below))

-- what is kept at the places
pub kept_turned : {A B : Type 0} (entry : A → B) (was now : List A) (n : ℕ) → now ≡ drop n was ++ take n was
    → map entry now ≡ drop n (map entry was) ++ take n (map entry was)
kept_turned entry was now n is = grind (arith, map-append, drop-map, take-map)

-- ---- places that are cleared one by one

-- one place more is cleared
pub cleared_more : {A : Type 0} (now : List (Option A)) (n : ℕ) → take n now ≡ replicate n None → n < length now
    → take (n + 1) (set now n None) ≡ replicate (n + 1) None
cleared_more now n before below =
    take_more (set now n None) n None (rw length-set below)
    ∙ ap (λ xs. xs ++ get_or (set now n None) n None ∷ []) (take-set now n None ∙ before)
    ∙ ap (λ x. replicate n None ++ x ∷ []) (get_or-set_same now n None None below) ∙ replicate-append-replicate n 1 None

-- the first of what is left
pub first_left : {A : Type 0} (was now : List (Option A)) (n : ℕ) → drop n now ≡ drop n was → get_or now n None ≡ get_or was n None
first_left was now n same = let none : n + 0 ≡ n = omega arith in cc (get_or-drop n now 0 None, get_or-drop n was 0 None)

-- and what is left behind it
pub left_behind : {A : Type 0} (was now : List (Option A)) (n : ℕ) → drop n now ≡ drop n was → drop (n + 1) (set now n None) ≡ drop (n + 1) was
left_behind was now n same = drop-set-lt (n + 1) now n None (omega arith) ∙ drop_more_same now was n same

-- what is left to take, from its first on
pub left_more : {A B : Type 0} (tokens : Option A → List B) (was : List (Option A)) (n count left : ℕ) → n < length was → count ≡ left + 1
    → flat_map tokens (take count (drop n was)) ≡ tokens (get_or was n None) ++ flat_map tokens (take left (drop (n + 1) was))
left_more tokens was n count left below is = grind (arith, drop_more)

-- ---- what stands at a place is a framed PDU, or nothing

pub nothing_there : (max_pdu count : ℕ) (octets : List ℕ) → count ≡ 0 → IsPduOrNothing max_pdu count octets
nothing_there max_pdu count octets none = subst (λ n. IsPduOrNothing max_pdu n octets) (sym none) (ap is_some (empty max_pdu))

pub pdu_there : (max_pdu count : ℕ) (octets pdu : List ℕ) → take count octets ≡ pdu → count ≡ length pdu
    → is_some (read_as segmented max_pdu pdu) ≡ true → IsPduOrNothing max_pdu count octets
pdu_there max_pdu count octets [] same long framed = absurd (false≢true (sym (ap is_some (empty max_pdu)) ∙ framed))
pdu_there max_pdu count octets (x ∷ pdu) same long framed =
    ap (λ o. is_some (read_as segmented max_pdu o)) same ∙ framed ∙ sym (lt-ltb 0 count (omega (arith, long)))

pub all_last : {A : Type 0} (P : A → Type 0) (items : List A) (item : A) (capacity : ℕ) → length items < capacity → All P items → P item
    → All P (keep_last capacity (items ++ item ∷ []))
all_last P items item capacity room all here = subst (All P) (sym (kept_last items item capacity room)) (All-push P items item all here)

-- The plain BASE has an encoding, and takes each index once.
use Rattle.announcement_train.proofs.Prelude.{ℕ, zero, suc, ◌≡◌, ◌+◌, ◌*◌, ◌≤◌, ◌||◌, false, eqb, ltb, [], ◌∷◌, ◌++◌, map, length, Option, Err, Some, None, refl, sym, ap, ◌∙◌, subst, arith, length-append, cond-false, le-ltb, ne_eqb, append-nil, number-length, Endpoint, endpoint, lc3, bis_of, entry, indices, encoding, stands_in, subgroup, Refuses, entry_fault, finish_fault, size_fault, with_entry, plain_entry, plain_entries, plain_subgroup, plain_base_of}
use Rattle.std.specs.List.{flat_map, range_with_len}
use Rattle.bcast_base.specs.Encoding.{number}
use Rattle.base_grammar.specs.declared.fault.DraftFault.{DraftFault}
use Rattle.base_grammar.specs.declared.fault.DraftFault.TheVariants.{IndexTwice, Memory, NoBis, TooLong}

-- one more entry
last_of_range : (start n : ℕ) → map plain_entry (range_with_len start (n + 1)) ≡ map plain_entry (range_with_len start n) ++ plain_entry (start + n) ∷ []
last_of_range start zero =
    let none : start ≡ start + 0 = omega arith in
    ap (λ bis. plain_entry bis ∷ []) none
last_of_range start (suc n) =
    let more : suc n + 1 ≡ suc (n + 1) = omega arith in
    let next : start + 1 + n ≡ start + suc n = omega arith in
    ap (λ k. map plain_entry (range_with_len start k)) more ∙ ap (λ xs. plain_entry start ∷ xs) (last_of_range (start + 1) n)
    ∙ ap (λ bis. plain_entry start ∷ map plain_entry (range_with_len (start + 1) n) ++ plain_entry bis ∷ []) next

pub entries_more : (n : ℕ) → plain_entries (n + 1) ≡ plain_entries n ++ plain_entry (n + 1) ∷ []
entries_more n =
    let next : 1 + n ≡ n + 1 = omega arith in
    last_of_range 1 n ∙ ap (λ bis. plain_entries n ++ plain_entry bis ∷ []) next

-- an index behind those of a range is none of them
none_stands : (start n bis : ℕ) → start + n ≤ bis → stands_in (map bis_of (map plain_entry (range_with_len start n))) bis ≡ false
none_stands start zero bis behind = refl
none_stands start (suc n) bis behind =
    ap (λ test. test || stands_in (map bis_of (map plain_entry (range_with_len (start + 1) n))) bis) (ne_eqb start bis (λ same. omega arith))
    ∙ none_stands (start + 1) n bis (omega arith)

pub index_is_new : (n : ℕ) → entry_fault (plain_subgroup n ∷ []) (n + 1) ≡ None
index_is_new n =
    cond-false (stands_in (indices (plain_subgroup n ∷ [])) (n + 1)) (Some IndexTwice) None
    (ap (λ before. stands_in before (n + 1)) (append-nil (map bis_of (plain_entries n))) ∙ none_stands 1 n (n + 1) (omega arith))

-- its octets
entries_length : (start n : ℕ) → length (flat_map entry (map plain_entry (range_with_len start n))) ≡ 2 * n
entries_length start zero = refl
entries_length start (suc n) = let rest : length (flat_map entry (map plain_entry (range_with_len (start + 1) n))) ≡ 2 * n = entries_length (start + 1) n in omega arith

encoding_length : (delay n : ℕ) → length (encoding (plain_base_of delay n)) ≡ 12 + 2 * n
encoding_length delay n = omega (
  arith,
  length-append (number 3 delay) (1 ∷ (subgroup (plain_subgroup n) ++ [])),
  number-length 3 delay,
  ap length (append-nil (subgroup (plain_subgroup n))),
  entries_length 1 n,
)

entries_count : (start n : ℕ) → length (map plain_entry (range_with_len start n)) ≡ n
entries_count start zero = refl
entries_count start (suc n) = let rest : length (map plain_entry (range_with_len (start + 1) n)) ≡ n = entries_count (start + 1) n in omega arith

pub plain_finishes : (delay n : ℕ) → 1 ≤ n → n ≤ 31 → finish_fault (plain_base_of delay n) ≡ None
plain_finishes delay n least most =
    ap (λ fault. size_fault fault (length (encoding (plain_base_of delay n))))
    (cond-false (eqb (length (plain_entries n)) 0) (Some NoBis) None (ne_eqb (length (plain_entries n)) 0 (λ none. omega (arith, entries_count 1 n))))
    ∙ cond-false (ltb 252 (length (encoding (plain_base_of delay n)))) (Some TooLong) None
    (le-ltb 252 (length (encoding (plain_base_of delay n))) (omega (arith, encoding_length delay n)))

-- the next entry is refused for want of memory alone, and else is put
pub wants_memory : (v : Endpoint) (delay n bis : ℕ) (fault : DraftFault) → v ≡ plain_base_of delay n → bis ≡ n + 1
    → Refuses (entry_fault v.subgroups bis) (Err fault) → fault ≡ Memory
wants_memory v delay n bis fault v_is bis_is refuses =
    subst (λ (f : Option DraftFault). Refuses f (Err fault))
    (ap (λ (w : Endpoint). entry_fault w.subgroups bis) v_is ∙ ap (entry_fault (plain_subgroup n ∷ [])) bis_is ∙ index_is_new n) refuses

pub put_is : (v new : Endpoint) (delay n bis : ℕ) → v ≡ plain_base_of delay n → bis ≡ n + 1
    → new ≡ with_entry (record { bis = bis; config = [] }) v → new ≡ plain_base_of delay (n + 1)
put_is v new delay n bis v_is bis_is new_is =
    new_is ∙ ap (with_entry (record { bis = bis; config = [] })) v_is ∙ ap (λ b. with_entry (plain_entry b) (plain_base_of delay n)) bis_is
    ∙ ap (λ es. endpoint delay (record { codec = lc3; config = []; metadata = []; entries = es } ∷ [])) (sym (entries_more n))

pub plain_is_small : (delay n : ℕ) → n ≤ 31 → ltb 252 (length (encoding (plain_base_of delay n))) ≡ false
plain_is_small delay n most = le-ltb 252 (length (encoding (plain_base_of delay n))) (omega (arith, encoding_length delay n))

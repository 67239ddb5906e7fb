-- Octets encode one BASE at most, whatever its fields are: what is read of the octets of some parts are these parts.
use Rattle.base_grammar.proofs.Prelude.{◌≡◌, ℕ, ◌-◌, ◌≤◌, ◌<◌, ◌^◌, true, List, [], ◌∷◌, ◌++◌, length, take, Option, Some, None, SomeIff, Result, Ok, Err, refl, sym, ap, ◌∙◌, append_assoc, arith, lt-ltb, take_at, append_cancel_left, flat_map-cons, flat_map, AllByRecursion, IsOctets, counted, number_again, number_in, BaseFault, BaseEntry, Subgroup, Endpoint, entry, subgroup, encoding, SubgroupFits, BaseIs, TooLong, some_pair_parts, is_none, result_err, HasCodec}
use Rattle.base_grammar.specs.Reading.{base_of}
use Rattle.base_grammar.proofs.Again.{base_takes}
use Rattle.base_grammar.proofs.Sizes.{length-encoding}

-- ---- what stands first, of two pairs whose octets are the same

tail : (x y : ℕ) (xs ys : List ℕ) → x ∷ xs ≡ y ∷ ys → (x ≡ y) × (xs ≡ ys)
tail x y xs ys e = (cc, cc)

same_long : (xs ys r s : List ℕ) → length xs ≡ length ys → xs ++ r ≡ ys ++ s → (xs ≡ ys) × (r ≡ s)
same_long xs ys r s long e =
    let same : xs ≡ ys = sym (take_at xs r (length xs) refl) ∙ ap (take (length xs)) e ∙ take_at ys s (length xs) (sym long) in
    (same, append_cancel_left xs r s (e ∙ ap (λ (z : List ℕ). z ++ s) (sym same)))

same_counted : (xs ys r s : List ℕ) → counted xs ++ r ≡ counted ys ++ s → (xs ≡ ys) × (r ≡ s)
same_counted xs ys r s e = grind (arith, tail, length, same_long)

same_entry : (a b : BaseEntry) (r s : List ℕ) → entry a ++ r ≡ entry b ++ s → (a ≡ b) × (r ≡ s)
same_entry a b r s e = grind (arith, tail, counted, same_counted)

same_entries : (xs ys : List BaseEntry) (r s : List ℕ) → length xs ≡ length ys → flat_map entry xs ++ r ≡ flat_map entry ys ++ s
    → (xs ≡ ys) × (r ≡ s)
same_entries [] [] r s long e = (refl, e)
same_entries [] (b ∷ ys) r s long e = absurd (omega (arith, long))
same_entries (a ∷ xs) [] r s long e = absurd (omega (arith, long))
same_entries (a ∷ xs) (b ∷ ys) r s long e =
    let first : entry a ++ (flat_map entry xs ++ r) ≡ entry b ++ (flat_map entry ys ++ s) =
    sym (append_assoc (entry a) (flat_map entry xs) r) ∙ ap (λ (z : List ℕ). z ++ r) (sym (flat_map-cons entry a xs)) ∙ e
    ∙ ap (λ (z : List ℕ). z ++ s) (flat_map-cons entry b ys) ∙ append_assoc (entry b) (flat_map entry ys) s in
    let one = same_entry a b (flat_map entry xs ++ r) (flat_map entry ys ++ s) first in
    let others = same_entries xs ys r s (omega (arith, long)) one.1 in
    (ap (λ (x : BaseEntry). x ∷ xs) one.0 ∙ ap (λ (l : List BaseEntry). b ∷ l) others.0, others.1)

subgroup_before : (s : Subgroup) (r : List ℕ) → subgroup s ++ r
    ≡ length s.entries ∷ (s.codec ++ (counted s.config ++ (counted s.metadata ++ (flat_map entry s.entries ++ r))))
subgroup_before s r = grind (arith, length, append_assoc, counted, flat_map, entry)

same_subgroup : (a b : Subgroup) (r s : List ℕ) → HasCodec a → HasCodec b → subgroup a ++ r ≡ subgroup b ++ s → (a ≡ b) × (r ≡ s)
same_subgroup a b r s five five' e =
    let count = tail (length a.entries) (length b.entries)
    (a.codec ++ (counted a.config ++ (counted a.metadata ++ (flat_map entry a.entries ++ r))))
    (b.codec ++ (counted b.config ++ (counted b.metadata ++ (flat_map entry b.entries ++ s))))
    (sym (subgroup_before a r) ∙ e ∙ subgroup_before b s) in
    let codec = same_long a.codec b.codec (counted a.config ++ (counted a.metadata ++ (flat_map entry a.entries ++ r)))
    (counted b.config ++ (counted b.metadata ++ (flat_map entry b.entries ++ s))) (five ∙ sym five') count.1 in
    let config = same_counted a.config b.config (counted a.metadata ++ (flat_map entry a.entries ++ r))
    (counted b.metadata ++ (flat_map entry b.entries ++ s)) codec.1 in
    let metadata = same_counted a.metadata b.metadata (flat_map entry a.entries ++ r) (flat_map entry b.entries ++ s) config.1 in
    let entries = same_entries a.entries b.entries r s count.0 metadata.1 in
    (rw (codec.0, config.0, metadata.0, entries.0) refl, entries.1)

same_subgroups : (xs ys : List Subgroup) (r s : List ℕ) → length xs ≡ length ys → AllByRecursion HasCodec xs → AllByRecursion HasCodec ys
    → flat_map subgroup xs ++ r ≡ flat_map subgroup ys ++ s → xs ≡ ys
same_subgroups [] [] r s long five five' e = refl
same_subgroups [] (b ∷ ys) r s long five five' e = absurd (omega (arith, long))
same_subgroups (a ∷ xs) [] r s long five five' e = absurd (omega (arith, long))
same_subgroups (a ∷ xs) (b ∷ ys) r s long five five' e =
    let first : subgroup a ++ (flat_map subgroup xs ++ r) ≡ subgroup b ++ (flat_map subgroup ys ++ s) =
    sym (append_assoc (subgroup a) (flat_map subgroup xs) r) ∙ ap (λ (z : List ℕ). z ++ r) (sym (flat_map-cons subgroup a xs)) ∙ e
    ∙ ap (λ (z : List ℕ). z ++ s) (flat_map-cons subgroup b ys) ∙ append_assoc (subgroup b) (flat_map subgroup ys) s in
    let one = same_subgroup a b (flat_map subgroup xs ++ r) (flat_map subgroup ys ++ s) five.0 five'.0 first in
    let others = same_subgroups xs ys r s (omega (arith, long)) five.1 five'.1 one.1 in
    ap (λ (x : Subgroup). x ∷ xs) one.0 ∙ ap (λ (l : List Subgroup). b ∷ l) others

same_parts : (v w : Endpoint) → v.delay < 2 ^ 24 → w.delay < 2 ^ 24 → AllByRecursion HasCodec v.subgroups → AllByRecursion HasCodec w.subgroups
    → encoding v ≡ encoding w → v ≡ w
same_parts v w small small' five five' e =
    let here : Some (v.delay, length v.subgroups ∷ flat_map subgroup v.subgroups) ≡ Some (w.delay, length w.subgroups ∷ flat_map subgroup w.subgroups) =
    sym (number_again 3 v.delay (length v.subgroups ∷ flat_map subgroup v.subgroups) small) ∙ ap (number_in 3) e
    ∙ number_again 3 w.delay (length w.subgroups ∷ flat_map subgroup w.subgroups) small' in
    let delay = some_pair_parts v.delay w.delay (length v.subgroups ∷ flat_map subgroup v.subgroups) (length w.subgroups ∷ flat_map subgroup w.subgroups) here in
    let count = tail (length v.subgroups) (length w.subgroups) (flat_map subgroup v.subgroups) (flat_map subgroup w.subgroups) delay.1 in
    let subgroups : v.subgroups ≡ w.subgroups =
    same_subgroups v.subgroups w.subgroups [] [] count.0 five five' (ap (λ (z : List ℕ). z ++ []) count.1) in
    rw (delay.0, subgroups) refl

-- ---- the octets of some parts

all_five : (subgroups : List Subgroup) → AllByRecursion SubgroupFits subgroups → AllByRecursion HasCodec subgroups
all_five [] fits = tt
all_five (s ∷ subgroups) fits = (fits.0.codec, all_five subgroups fits.1)

is_read : (v : Endpoint) (octets : List ℕ) (read : Result Endpoint BaseFault) → v.delay < 2 ^ 24 → AllByRecursion HasCodec v.subgroups
    → IsOctets octets → octets ≡ encoding v → base_of octets ≡ read → None ≡ result_err read → BaseIs v octets
is_read v octets (Err fault) small five fits e is none = absurd cc
is_read v octets (Ok w) small five fits e is none = grind (arith, base_takes octets w fits is, same_parts w v (base_takes octets w fits is).base.delay small (all_five w.subgroups (base_takes octets w fits is).base.fits) five (sym (base_takes octets w fits is).encoded ∙ e))

-- octets of some parts in which nothing is at fault are the BASE of these parts
pub parts_are : (v : Endpoint) (octets : List ℕ) → v.delay < 2 ^ 24 → AllByRecursion HasCodec v.subgroups → IsOctets octets
    → octets ≡ encoding v → None ≡ result_err (base_of octets) → BaseIs v octets
parts_are v octets small five fits e none = is_read v octets (base_of octets) small five fits e refl none

-- and too many are read as such
pub parts_too_long : (v : Endpoint) (left : Option ℕ) → SomeIff left (length (flat_map subgroup v.subgroups) ≤ 248) (248 - length (flat_map subgroup v.subgroups))
    → is_none left ≡ true → base_of (encoding v) ≡ Err TooLong
unfolding base_of
parts_too_long v left passes none = grind (arith, length, flat_map, subgroup, encoding, lt-ltb, length-encoding)

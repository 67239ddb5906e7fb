-- The steps of a draft: its last subgroup, and what the draft keeps.
use Rattle.base_grammar.proofs.Prelude.{◌≡◌, ℕ, suc, ◌+◌, ◌-◌, ◌≤◌, Bool, false, cond, ltb, eqb, List, [], ◌∷◌, ◌++◌, length, get_or, map, Some, None, Result, Ok, Err, refl, sym, ap, ◌∙◌, append_assoc, arith, OnOk, OnErr, flat_map, AllByRecursion, ForSome, ltb-false, append-nil, map_push, flat_map-cons, AreLtvs, BaseEntry, Subgroup, last_of, closed, with_last, IsDraft, opened, is_empty_last, subgroup_fault, metadata_fault, entry_fault, size_fault, draft_fault, finish_fault, Refuses, Endpoint, endpoint, is_lc3, subgroup, bis_of, indices, stands_in, AreNew, IsConfig, SubgroupFits, HasEntry, IsBase}
use Rattle.std.proofs.Math.ListN.{set}
use Rattle.base_grammar.specs.declared.fault.DraftFault.{DraftFault}
use Rattle.base_grammar.specs.declared.fault.DraftFault.TheVariants as faults
use Rattle.base_grammar.proofs.Loops.{indices-push}
use Rattle.base_grammar.proofs.Sizes.{length-encoding}
use Rattle.base_grammar.proofs.Steps.{positive}
use Rattle.base_grammar.proofs.Taken.{AreNew-then}

-- ---- the last subgroup

pub last_at : (ss : List Subgroup) (s : Subgroup) → 1 ≤ length ss → s ≡ get_or ss (length ss - 1) s → last_of ss ≡ Some s
last_at [] s h e = absurd (omega arith)
last_at (first ∷ []) s h e = ap (λ x. Some x) (sym e)
last_at (first ∷ other ∷ others) s h e =
    let i : length (first ∷ other ∷ others) - 1 ≡ suc (length (other ∷ others) - 1) = omega arith in
    last_at (other ∷ others) s (omega arith) (e ∙ ap (λ (n : ℕ). get_or (first ∷ other ∷ others) n s) i)

pub set_last : (change : Subgroup → Subgroup) (ss : List Subgroup) (s : Subgroup) → 1 ≤ length ss → s ≡ get_or ss (length ss - 1) s → set ss (length ss - 1) (change s) ≡ with_last change ss
set_last change (first ∷ other ∷ others) s h e =
    let i : length (first ∷ other ∷ others) - 1 ≡ suc (length (other ∷ others) - 1) = omega arith in
    ap (λ (n : ℕ). set (first ∷ other ∷ others) n (change s)) i
    ∙ ap (λ (xs : List Subgroup). first ∷ xs) (set_last change (other ∷ others) s (omega arith) (e ∙ ap (λ (n : ℕ). get_or (first ∷ other ∷ others) n s) i))
set_last change ss s h e = search (length, set, get_or)

pub last_set : (change : Subgroup → Subgroup) (ss : List Subgroup) (n : ℕ) (s : Subgroup) → n ≡ length ss → eqb n 0 ≡ false → s ≡ get_or ss (n - 1) s → set ss (n - 1) (change s) ≡ with_last change ss
last_set change ss n s long some e = grind (arith, length, positive, set, set_last, get_or)

closed-first : (s : Subgroup) (change : Subgroup → Subgroup) (other : Subgroup) (others : List Subgroup)
    → closed (s ∷ with_last change (other ∷ others)) ≡ s ∷ closed (with_last change (other ∷ others))
closed-first s change other others = grind arith

closed-with_last : (change : Subgroup → Subgroup) (ss : List Subgroup) → closed (with_last change ss) ≡ closed ss
closed-with_last change (s ∷ other ∷ others) = closed-first s change other others ∙ ap (λ (xs : List Subgroup). s ∷ xs) (closed-with_last change (other ∷ others))
closed-with_last change ss = search closed-first

closed-push : (ss : List Subgroup) (s : Subgroup) → closed (ss ++ s ∷ []) ≡ ss
closed-push (x ∷ y ∷ ys) s = ap (λ (xs : List Subgroup). x ∷ xs) (closed-push (y ∷ ys) s)
closed-push ss s = search

some_entry : (s : Subgroup) → is_empty_last (Some s) ≡ false → HasEntry s
some_entry s e = positive (length s.entries) e

all_streams : (ss : List Subgroup) → AllByRecursion HasEntry (closed ss) → is_empty_last (last_of ss) ≡ false → AllByRecursion HasEntry ss
all_streams (s ∷ other ∷ others) h e = (h.0, all_streams (other ∷ others) h.1 e)
all_streams ss h e = search some_entry

fits_with_last : (change : Subgroup → Subgroup) (ss : List Subgroup) → ((s : Subgroup) → last_of ss ≡ Some s → SubgroupFits s → SubgroupFits (change s)) → AllByRecursion SubgroupFits ss
    → AllByRecursion SubgroupFits (with_last change ss)
fits_with_last change (s ∷ other ∷ others) keeps h = (h.0, fits_with_last change (other ∷ others) keeps h.1)
fits_with_last change ss keeps h = search

all_push : {A : Type 0} (P : A → Type 0) (xs : List A) (x : A) → AllByRecursion P xs → P x → AllByRecursion P (xs ++ x ∷ [])
all_push P [] x h p = (p, tt)
all_push P (y ∷ xs) x h p = (h.0, all_push P xs x h.1 p)

indices-with_last : (change : Subgroup → Subgroup) (extra : List ℕ) (ss : List Subgroup) → ((s : Subgroup) → map bis_of (change s).entries ≡ map bis_of s.entries ++ extra) → 1 ≤ length ss
    → indices (with_last change ss) ≡ indices ss ++ extra
indices-with_last change extra [] more h = absurd (omega arith)
indices-with_last change extra (s ∷ []) more h = grind (arith, map, bis_of, flat_map-cons, append-nil)
indices-with_last change extra (s ∷ other ∷ others) more h =
    flat_map-cons (λ (x : Subgroup). map bis_of x.entries) s (with_last change (other ∷ others))
    ∙ ap (λ (bs : List ℕ). map bis_of s.entries ++ bs) (indices-with_last change extra (other ∷ others) more (omega arith))
    ∙ sym (append_assoc (map bis_of s.entries) (indices (other ∷ others)) extra)
    ∙ ap (λ (bs : List ℕ). bs ++ extra) (sym (flat_map-cons (λ (x : Subgroup). map bis_of x.entries) s (other ∷ others)))

-- ---- what a draft keeps

nothing_read : AreLtvs []
nothing_read = record { ltvs = []; list = record { fit = tt; encoded = refl } }

not_refused : (b : Bool) (fault : DraftFault) (x : Unit {0}) → Refuses (cond b (Some fault) None) (Ok x) → b ≡ false
not_refused b fault x h = grind arith

pub with_subgroup_keeps : (delay : ℕ) (codec config : List ℕ) (old new : List Subgroup) (result : Result (Unit {0}) DraftFault) → IsDraft (endpoint delay old) → length codec ≡ 5
    → IsConfig (is_lc3 codec) config
    → OnOk result (new ≡ old ++ opened codec config ∷ []) → OnErr result (new ≡ old) → Refuses (subgroup_fault old) result → IsDraft (endpoint delay new)
with_subgroup_keeps delay codec config old new (Ok x) d five list ok err refuses = grind (arith, opened, nothing_read, closed-push, all_streams, not_refused, is_empty_last, last_of, all_push, indices-push, append-nil, indices)
with_subgroup_keeps delay codec config old new (Err fault) d five list ok err refuses = rw err d

some_subgroup : (ss : List Subgroup) (x : Unit {0}) → Refuses (metadata_fault ss) (Ok x) → 1 ≤ length ss
some_subgroup ss x h = grind arith

pub with_metadata_keeps : (delay : ℕ) (metadata : List ℕ) (old new : List Subgroup) (result : Result (Unit {0}) DraftFault) → IsDraft (endpoint delay old) → AreLtvs metadata
    → OnOk result (new ≡ with_last (λ s. record s { metadata = metadata }) old) → OnErr result (new ≡ old) → Refuses (metadata_fault old) result → IsDraft (endpoint delay new)
with_metadata_keeps delay metadata old new (Ok x) d list ok err refuses =
    rw ok (record {
      delay = d.delay;
      streams = rw (closed-with_last (λ s. record s { metadata = metadata }) old) d.streams;
      fits = fits_with_last (λ s. record s { metadata = metadata }) old (λ s _ f. record { codec = f.codec; config = f.config; metadata = list; entries = f.entries }) d.fits;
      once = rw (indices-with_last (λ s. record s { metadata = metadata }) [] old (λ s. sym (append-nil (map bis_of s.entries))) (some_subgroup old x refuses) ∙ append-nil (indices old)) d.once;
    })
with_metadata_keeps delay metadata old new (Err fault) d list ok err refuses = rw err d

new_index : (ss : List Subgroup) (bis : ℕ) (x : Unit {0}) → Refuses (entry_fault ss bis) (Ok x) → (1 ≤ length ss) × (stands_in (indices ss) bis ≡ false)
new_index ss bis x h = grind (arith, not_refused, stands_in, indices)

AreNew-one : (before : List ℕ) (bis : ℕ) → stands_in before bis ≡ false → AreNew before (bis ∷ [])
AreNew-one before bis e = (e, tt)

pub with_entry_keeps : (delay : ℕ) (e : BaseEntry) (old new : List Subgroup) (result : Result (Unit {0}) DraftFault) → IsDraft (endpoint delay old)
    → ForSome (last_of old) (λ s. IsConfig (is_lc3 s.codec) e.config)
    → OnOk result ((1 ≤ e.bis) × (e.bis ≤ 31)) → OnOk result (new ≡ with_last (λ s. record s { entries = s.entries ++ e ∷ [] }) old) → OnErr result (new ≡ old) → Refuses (entry_fault old e.bis) result
    → IsDraft (endpoint delay new)
with_entry_keeps delay e old new (Ok x) d list range ok err refuses =
    let is_new = new_index old e.bis x refuses in
    rw ok (record {
      delay = d.delay;
      streams = rw (closed-with_last (λ s. record s { entries = s.entries ++ e ∷ [] }) old) d.streams;
      fits = fits_with_last (λ s. record s { entries = s.entries ++ e ∷ [] }) old (grind (arith, all_push, is_lc3)) d.fits;
      once = rw (indices-with_last (λ s. record s { entries = s.entries ++ e ∷ [] }) (e.bis ∷ []) old (λ s. map_push bis_of s.entries e) is_new.0)
          (AreNew-then [] (indices old) (e.bis ∷ []) d.once (AreNew-one (indices old) e.bis is_new.1));
    })
with_entry_keeps delay e old new (Err fault) d list range ok err refuses = rw err d

-- ---- the end

short : (b : Bool) (octets : ℕ) → ltb 252 octets ≡ b → cond b (Some faults.TooLong) None ≡ None → octets ≤ 252
short b octets t e = grind (arith, ltb-false)

size_none : (b : Bool) (octets : ℕ) → size_fault (cond b (Some faults.NoBis) None) octets ≡ None → (b ≡ false) × (octets ≤ 252)
size_none b octets e = grind (arith, short, ltb)

pub draft_done : (v : Endpoint) → IsDraft v → draft_fault v.subgroups (4 + length (flat_map subgroup v.subgroups)) ≡ None → IsBase v
draft_done v d e = grind (arith, size_none, is_empty_last, last_of, length, flat_map, subgroup, all_streams, length-encoding)

pub finish_is : (v : Endpoint) → finish_fault v ≡ draft_fault v.subgroups (4 + length (flat_map subgroup v.subgroups))
finish_is v = ap (draft_fault v.subgroups) (length-encoding v)

-- Segments are read as the layout says, and the other way round.
use Rattle.iso_pdu.proofs.Prelude.{◌≡◌, ℕ, zero, suc, ◌+◌, ◌-◌, ◌/◌, ◌%◌, ◌<◌, ◌≤◌, Bool, false, eqb, List, [], ◌∷◌, ◌++◌, length, take, drop, get_or, Option, Some, None, Result, Ok, Err, refl, sym, ap, ◌∙◌, subst, arith, add-zero, append_assoc, length-append, length-drop, length-take, take-append-drop, cases_Bool, eqb-true, eqb-false, eq-eqb, ne_eqb, take_at, drop_at, append-nil, result_err, PduFault, SegmentShort, Part, start, more, bit, BodyIs, SegmentIs, SegmentsAre, part_at, fault_at, before, unless, parts_of, parts_in, IsPassed}
use Rattle.std.proofs.lemmas.Bool.Decides.{nat_tests}
use Rattle.iso_pdu.specs.Reading.{parts_from}

-- ---- the octets of a segment that was read are passed

pub parts_from-inside : (place inside : ℕ) (octets : List ℕ) → inside ≤ length octets → parts_from place inside octets ≡ parts_from (place + inside) zero (drop inside octets)
unfolding parts_from
parts_from-inside place (suc inside) (octet ∷ octets) h =
    parts_from-inside (place + 1) inside octets (omega arith) ∙ ap (λ (p : ℕ). parts_from p zero (drop inside octets)) (omega arith)
parts_from-inside place inside octets h = search (add-zero, drop)

-- ---- one segment

pub fault_at-none : (place header count left : ℕ) → fault_at place header count left ≡ None → (count ≤ left) × (header % 2 ≡ 0 → 3 ≤ count)
fault_at-none place header count left e = grind (arith, nat_tests)

pub no_fault : (place header count left : ℕ) → count ≤ left → (header % 2 ≡ 0 → 3 ≤ count) → fault_at place header count left ≡ None
no_fault place header count left h k = grind (arith, nat_tests)

pub parts_from-whole : (place header count : ℕ) (octets : List ℕ) → fault_at place header count (length octets) ≡ None
    → parts_from place zero (header ∷ count ∷ octets) ≡ before (part_at header (take count octets)) (parts_from (place + (count + 2)) zero (drop count octets))
unfolding parts_from
parts_from-whole place header count octets e =
    let h : (count ≤ length octets) × (header % 2 ≡ 0 → 3 ≤ count) = fault_at-none place header count (length octets) e in
    let inside : parts_from (place + 1 + 1) count octets ≡ parts_from (place + 1 + 1 + count) zero (drop count octets) = parts_from-inside (place + 1 + 1) count octets h.0 in
    let there : place + 1 + 1 + count ≡ place + (count + 2) = omega arith in
    rw (e, inside, there) refl

-- ---- a part and its octets

bit_is : (n : ℕ) (b : Bool) → n ≡ bit b → eqb n 1 ≡ b
bit_is n b e = grind (arith, eq-eqb, ne_eqb)

pub part_at-is : (header : ℕ) (body : List ℕ) → (header % 2 ≡ 0 → 3 ≤ length body) → BodyIs (part_at header body) header body
part_at-is header body h = grind (arith, cases_Bool, eqb, eqb-true, eqb-false, length, take, length-take, take-append-drop)

pub part_at-body : (part : Part) (header : ℕ) (body : List ℕ) → BodyIs part header body → part_at header body ≡ part
part_at-body (start offset complete octets) header body h =
    let head = h.0 in
    let odd : eqb (header % 2) 1 ≡ false = ne_eqb _ _ (λ e. omega (arith, head.start_bit)) in
    let flag : eqb (header / 2 % 2) 1 ≡ complete = bit_is (header / 2 % 2) complete head.complete_bit in
    let prefix : take 3 body ≡ h.1 = rw h.4 (take_at h.1 octets 3 h.2) in
    let back : drop 3 body ≡ octets = rw h.4 (drop_at h.1 octets 3 h.2) in
    rw (odd, flag, prefix, back, ← h.3) refl
part_at-body (more complete octets) header body h = grind (arith, eqb, eq-eqb, bit_is)

pub body_long : (part : Part) (header : ℕ) (body : List ℕ) → BodyIs part header body → header % 2 ≡ 0 → 3 ≤ length body
body_long part header body h e = grind (arith, length-append)

-- ---- what is read is encoded so

before_ok : (part : Part) (read : Result (List Part) PduFault) (parts : List Part) → before part read ≡ Ok parts → (others : List Part) × (read ≡ Ok others) × (part ∷ others ≡ parts)
before_ok part read parts e = grind arith

unless_ok : (fault : Option PduFault) (read : Result (List Part) PduFault) (parts : List Part) → unless fault read ≡ Ok parts → (fault ≡ None) × (read ≡ Ok parts)
unless_ok fault read parts e = grind arith

ok_same : (xs ys : List Part) → (let r : List Part → Result (List Part) PduFault = λ zs. Ok zs in r xs ≡ r ys) → xs ≡ ys
ok_same xs ys e = cc

encoded_within : (n place : ℕ) (octets : List ℕ) (parts : List Part) → length octets ≤ n → parts_from place zero octets ≡ Ok parts → SegmentsAre parts octets
unfolding parts_from
encoded_within n place [] parts h e = subst (λ (ps : List Part). SegmentsAre ps []) (ok_same [] parts e) refl
encoded_within n place (header ∷ []) parts h e = absurd cc
encoded_within zero place (header ∷ count ∷ octets) parts h e = absurd (omega arith)
encoded_within (suc n) place (header ∷ count ∷ octets) parts h e =
    let none = unless_ok (fault_at place header count (length octets)) (before (part_at header (take count octets)) (parts_from (place + 1) (suc count) (count ∷ octets))) parts e in
    let fits : (count ≤ length octets) × (header % 2 ≡ 0 → 3 ≤ count) = fault_at-none place header count (length octets) none.0 in
    let read : before (part_at header (take count octets)) (parts_from (place + (count + 2)) zero (drop count octets)) ≡ Ok parts = sym (parts_from-whole place header count octets none.0) ∙ e in
    let first = before_ok (part_at header (take count octets)) (parts_from (place + (count + 2)) zero (drop count octets)) parts read in
    let long : length (take count octets) ≡ count = omega (arith, length-take count octets, fits.0) in
    let others : SegmentsAre first.0 (drop count octets) = encoded_within n (place + (count + 2)) (drop count octets) first.0 (omega (arith, length-drop count octets)) first.1 in
    let body : BodyIs (part_at header (take count octets)) header (take count octets) = part_at-is header (take count octets) (λ even. rw long (fits.1 even)) in
    let whole : header ∷ count ∷ octets ≡ (header ∷ count ∷ take count octets) ++ drop count octets = ap (λ (os : List ℕ). header ∷ count ∷ os) (sym (take-append-drop count octets)) in
    subst (λ (ps : List Part). SegmentsAre ps (header ∷ count ∷ octets)) first.2
    (header ∷ count ∷ take count octets, drop count octets, (header, take count octets, body, ap (λ (k : ℕ). header ∷ k ∷ take count octets) (sym long)), others, whole)

pub parts_from-encoded : (place : ℕ) (octets : List ℕ) (parts : List Part) → parts_from place zero octets ≡ Ok parts → SegmentsAre parts octets
parts_from-encoded place octets parts e = encoded_within (length octets) place octets parts (omega arith) e

-- ---- what is encoded so is read, whatever follows

pub parts_from-segment : (part : Part) (place : ℕ) (first rest : List ℕ) → SegmentIs part first
    → parts_from place zero (first ++ rest) ≡ before part (parts_from (place + length first) zero rest)
parts_from-segment part place first rest h =
    let header = h.0 in
    let body = h.1 in
    let none : fault_at place header (length body) (length (body ++ rest)) ≡ None =
    no_fault place header (length body) (length (body ++ rest)) (omega (arith, length-append body rest)) (body_long part header body h.2) in
    let same : part_at header (take (length body) (body ++ rest)) ≡ part = rw (take_at body rest (length body) refl) (part_at-body part header body h.2) in
    let others : drop (length body) (body ++ rest) ≡ rest = drop_at body rest (length body) refl in
    let there : place + (length body + 2) ≡ place + length (header ∷ length body ∷ body) = omega arith in
    rw h.3 (parts_from-whole place header (length body) (body ++ rest) none ∙ rw (same, others, there) refl)

-- parts in front of what is read
abbrev pub befores : List Part → Result (List Part) PduFault → Result (List Part) PduFault
befores [] read = read
befores (part ∷ parts) read = before part (befores parts read)

pub befores-ok : (parts others : List Part) → befores parts (Ok others) ≡ Ok (parts ++ others)
befores-ok [] others = refl
befores-ok (part ∷ parts) others = rw (befores-ok parts others) refl

pub befores-err : (parts : List Part) (fault : PduFault) → befores parts (Err fault) ≡ Err fault
befores-err [] fault = refl
befores-err (part ∷ parts) fault = rw (befores-err parts fault) refl

pub parts_from-segments : (parts : List Part) (place : ℕ) (prefix rest : List ℕ) → SegmentsAre parts prefix
    → parts_from place zero (prefix ++ rest) ≡ befores parts (parts_from (place + length prefix) zero rest)
parts_from-segments [] place prefix rest h = rw (h, add-zero place) refl
parts_from-segments (part ∷ parts) place prefix rest h =
    let first = h.0 in
    let others = h.1 in
    let regrouped : (first ++ others) ++ rest ≡ first ++ (others ++ rest) = append_assoc first others rest in
    let there : place + length first + length others ≡ place + length (first ++ others) = omega (arith, length-append first others) in
    rw h.4 (ap (λ (os : List ℕ). parts_from place zero os) regrouped ∙ parts_from-segment part place first (others ++ rest) h.2
    ∙ ap (before part) (parts_from-segments parts (place + length first) others rest h.3 ∙ ap (λ (p : ℕ). befores parts (parts_from p zero rest)) there))

pub parts_from-layout : (place : ℕ) (octets : List ℕ) (parts : List Part) → SegmentsAre parts octets → parts_from place zero octets ≡ Ok parts
unfolding parts_from
parts_from-layout place octets parts h =
    let whole : parts_from place zero (octets ++ []) ≡ befores parts (Ok []) = parts_from-segments parts place octets [] h in
    let e : parts_from place zero octets ≡ befores parts (Ok []) = simp append-nil at whole in
    e ∙ befores-ok parts [] ∙ simp append-nil

-- ---- the steps of the code

result_err-before : (part : Part) (read : Result (List Part) PduFault) → result_err (before part read) ≡ result_err read
result_err-before part read = grind arith

pub result_err-nothing : (place : ℕ) (octets : List ℕ) → length octets ≤ 0 → result_err (parts_from place zero octets) ≡ None
unfolding parts_from
result_err-nothing place octets h = grind arith

pub result_err-alone : (place : ℕ) (octets : List ℕ) → 0 < length octets → length octets < 2 → result_err (parts_from place zero octets) ≡ Some (SegmentShort place)
unfolding parts_from
result_err-alone place octets h k = grind arith

pub result_err-fault : (place : ℕ) (octets : List ℕ) (fault : PduFault) → 2 ≤ length octets → fault_at place (get_or octets 0 0) (get_or octets 1 0) (length octets - 2) ≡ Some fault
    → result_err (parts_from place zero octets) ≡ Some fault
unfolding parts_from
result_err-fault place octets fault h e = grind (arith, length, fault_at)

pub passed : (place : ℕ) (octets : List ℕ) → 2 ≤ length octets → fault_at place (get_or octets 0 0) (get_or octets 1 0) (length octets - 2) ≡ None
    → IsPassed place octets (2 + get_or octets 1 0)
passed place [] h e = absurd (omega arith)
passed place (header ∷ []) h e = absurd (omega arith)
passed place (header ∷ count ∷ octets) h e =
    let left : length (header ∷ count ∷ octets) - 2 ≡ length octets = omega arith in
    let none : fault_at place header count (length octets) ≡ None = rw left at e in
    let fits : (count ≤ length octets) × (header % 2 ≡ 0 → 3 ≤ count) = fault_at-none place header count (length octets) none in
    let there : place + (count + 2) ≡ place + (2 + count) = omega arith in
    let two : 2 + count ≡ suc (suc count) = omega arith in
    let behind : drop (2 + count) (header ∷ count ∷ octets) ≡ drop count octets = rw two refl in
    record {
      header = omega arith;
      within = omega (arith, fits.0);
      same = grind (arith, result_err, parts_from-whole, result_err-before, part_at, take, drop);
    }

-- what stands at the front of segments that have no fault
pub record HasFirst (octets : List ℕ) (others : List ℕ) : Type 0 where
  pub long : 2 ≤ length octets
  pub whole : fault_at 0 (get_or octets 0 0) (get_or octets 1 0) (length octets - 2) ≡ None
  pub sound : parts_of others ≡ Ok (parts_in others)
  pub parts_is : parts_in octets ≡ part_at (get_or octets 0 0) (take (get_or octets 1 0) (drop 2 octets)) ∷ parts_in others

pub parts_in-nothing : (octets : List ℕ) → length octets ≡ 0 → parts_in octets ≡ []
unfolding parts_from
parts_in-nothing octets h = grind arith

parts_in-ok : (octets : List ℕ) (parts : List Part) → parts_of octets ≡ Ok parts → parts_of octets ≡ Ok (parts_in octets)
parts_in-ok octets parts e = rw e refl

pub first_of_sound : (octets : List ℕ) → 0 < length octets → parts_of octets ≡ Ok (parts_in octets) → HasFirst octets (drop (get_or octets 1 0) (drop 2 octets))
unfolding parts_from
first_of_sound [] h e = absurd (omega arith)
first_of_sound (header ∷ []) h e = absurd cc
first_of_sound (header ∷ count ∷ octets) h e =
    let parts = parts_in (header ∷ count ∷ octets) in
    let none = unless_ok (fault_at 0 header count (length octets)) (before (part_at header (take count octets)) (parts_from 1 (suc count) (count ∷ octets))) parts e in
    let read : before (part_at header (take count octets)) (parts_from (0 + (count + 2)) zero (drop count octets)) ≡ Ok parts = sym (parts_from-whole 0 header count octets none.0) ∙ e in
    let first = before_ok (part_at header (take count octets)) (parts_from (0 + (count + 2)) zero (drop count octets)) parts read in
    let there : parts_of (drop count octets) ≡ Ok first.0 = parts_from-layout 0 (drop count octets) first.0 (parts_from-encoded (0 + (count + 2)) (drop count octets) first.0 first.1) in
    let left : length (header ∷ count ∷ octets) - 2 ≡ length octets = omega arith in
    record {
      long = omega arith;
      whole = rw left none.0;
      sound = parts_in-ok (drop count octets) first.0 there;
      parts_is = sym first.2 ∙ ap (λ (ps : List Part). part_at header (take count octets) ∷ ps) (rw there refl);
    }

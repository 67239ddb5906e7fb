-- A PDU is read as the layout says, its fault is the one at the cut, and what is written is read.
use Rattle.iso_pdu.proofs.Prelude.{◌≡◌, ℕ, zero, suc, ◌+◌, ◌*◌, ◌%◌, ◌<◌, ◌≤◌, ◌⊎◌, Bool, cond, eqb, ltb, List, [], ◌∷◌, ◌++◌, length, take, drop, Option, Some, None, Result, Ok, Err, refl, sym, ap, ◌∙◌, subst, inl, inr, arith, append_assoc, length-append, length-take, length-drop, take-append-drop, and_parts, cases_Bool, ltb-true, ltb-false, le-ltb, lt-ltb, eqb-true, eqb-false, eq-eqb, ne_eqb, Le, PduFault, Short, LengthDiffers, TooLong, SegmentShort, SegmentNoOffset, Part, start, more, Content, end, fragment, framed, control, bit, IsSegmentHeader, SegmentIs, SegmentsAre, PduIs, llid, octets_of, HasAtMost, part_at, fault_at, before, unless, parts_of, framed_of, content_at, StandsShort, StandsNoOffset, AtCut, InFramed, FaultIs, offset_octets, segment, segments, payload_of, pdu}
use Rattle.std.specs.List.{AllByRecursion}
use Rattle.iso_pdu.specs.Reading.{parts_from, read_of}
use Rattle.iso_pdu.proofs.PartsRead.{fault_at-none, parts_from-whole, part_at-is, parts_from-encoded, parts_from-layout, parts_from-segments, befores-err}

-- ---- what is read is of the layout, and the other way round

abbrev good : Content → Result Content PduFault
good content = Ok content

abbrev bad : PduFault → Result Content PduFault
bad fault = Err fault

good_same : (x y : Content) → good x ≡ good y → x ≡ y
good_same x y e = cc

bad_same : (x y : PduFault) → bad x ≡ bad y → x ≡ y
bad_same x y e = cc

framed_of-ok : (read : Result (List Part) PduFault) (content : Content) → framed_of read ≡ Ok content → (parts : List Part) × (read ≡ Ok parts) × (framed parts ≡ content)
framed_of-ok read content e = grind (arith, good_same, framed)

content_at-err : (kind : ℕ) (payload : List ℕ) (fault : PduFault) → content_at kind payload ≡ Err fault → (kind ≡ 2) × (parts_of payload ≡ Err fault)
content_at-err kind payload fault e = grind (arith, bad_same, parts_of)

-- octets with a Length that is right are read under their LLID
pub read_of-whole : (max_pdu header : ℕ) (payload : List ℕ) → length payload ≤ max_pdu → read_of max_pdu (header ∷ length payload ∷ payload) ≡ content_at (header % 4) payload
unfolding read_of
read_of-whole max_pdu header payload h = grind (arith, eqb, length, eq-eqb, ltb, le-ltb)

pub read_of-layout : (max_pdu : ℕ) (content : Content) (octets : List ℕ) → PduIs content octets × (length octets ≤ max_pdu + 2) → read_of max_pdu octets ≡ Ok content
read_of-layout max_pdu content octets h =
    grind (arith, length, read_of-whole, content_at, end, fragment, framed, parts_from-layout, control)

pub read_of-encoded : (max_pdu : ℕ) (content : Content) (octets : List ℕ) → read_of max_pdu octets ≡ Ok content → PduIs content octets × (length octets ≤ max_pdu + 2)
unfolding read_of
read_of-encoded max_pdu content octets e =
    grind (
      arith,
      cases_Bool,
      eqb,
      length,
      cond,
      ltb,
      content_at,
      eqb-true,
      ltb-false,
      good_same,
      end,
      fragment,
      framed_of-ok,
      parts_of,
      parts_from-encoded,
      control,
    )

-- ---- how long parts are

segment_long : (part : Part) (first : List ℕ) → SegmentIs part first → length (octets_of part) ≤ length first
segment_long part first h = grind (arith, length, length-append)

segments_long : (most : ℕ) (parts : List Part) (payload : List ℕ) → SegmentsAre parts payload → length payload ≤ most → AllByRecursion (λ part. length (octets_of part) ≤ most) parts
segments_long most [] payload h within = tt
segments_long most (part ∷ parts) payload h within =
    let whole : length payload ≡ length h.0 + length h.1 = rw h.4 (length-append h.0 h.1) in
    let first : length (octets_of part) ≤ length h.0 = segment_long part h.0 h.2 in
    (omega arith, segments_long most parts h.1 h.3 (omega arith))

pub pdu_long : (max_pdu : ℕ) (content : Content) (octets : List ℕ) → PduIs content octets × (length octets ≤ max_pdu + 2) → HasAtMost max_pdu content
pdu_long max_pdu content octets h = grind (arith, end, length, fragment, framed, segments_long, control)

-- ---- faults

-- a fault at the cut of octets that begin at a place
abbrev CutFrom : (List ℕ → Type 0) → ℕ → ℕ → List ℕ → Type 0
CutFrom P from place octets =
    (parts : List Part) × (prefix : List ℕ) × (rest : List ℕ) × SegmentsAre parts prefix × (from + length prefix ≡ place) × P rest × (octets ≡ prefix ++ rest)

abbrev FaultFrom : ℕ → PduFault → List ℕ → Type 0
FaultFrom from Short octets = ⊥
FaultFrom from LengthDiffers octets = ⊥
FaultFrom from TooLong octets = ⊥
FaultFrom from (SegmentShort place) octets = CutFrom StandsShort from place octets
FaultFrom from (SegmentNoOffset place) octets = CutFrom StandsNoOffset from place octets

cut_later : (P : List ℕ → Type 0) (from place : ℕ) (part : Part) (first others octets : List ℕ) → SegmentIs part first → octets ≡ first ++ others
    → CutFrom P (from + length first) place others → CutFrom P from place octets
cut_later P from place part first others octets is whole cut =
    let prefix = cut.1 in
    let there : from + length (first ++ prefix) ≡ place = omega (arith, length-append first prefix, cut.4) in
    let joined : octets ≡ (first ++ prefix) ++ cut.2 = whole ∙ ap (λ (os : List ℕ). first ++ os) cut.6 ∙ sym (append_assoc first prefix cut.2) in
    (part ∷ cut.0, first ++ prefix, cut.2, (first, prefix, is, cut.3, refl), there, cut.5, joined)

fault_later : (fault : PduFault) (from : ℕ) (part : Part) (first others octets : List ℕ) → SegmentIs part first → octets ≡ first ++ others → FaultFrom (from + length first) fault others
    → FaultFrom from fault octets
fault_later Short from part first others octets is whole h = absurd h
fault_later LengthDiffers from part first others octets is whole h = absurd h
fault_later TooLong from part first others octets is whole h = absurd h
fault_later (SegmentShort place) from part first others octets is whole h = cut_later StandsShort from place part first others octets is whole h
fault_later (SegmentNoOffset place) from part first others octets is whole h = cut_later StandsNoOffset from place part first others octets is whole h

here : (P : List ℕ → Type 0) (from : ℕ) (octets : List ℕ) → P octets → CutFrom P from from octets
here P from octets h = ([], [], octets, refl, omega arith, h, refl)

abbrev bad_parts : PduFault → Result (List Part) PduFault
bad_parts fault = Err fault

bad_parts_same : (x y : PduFault) → bad_parts x ≡ bad_parts y → x ≡ y
bad_parts_same x y e = cc

before_err : (part : Part) (read : Result (List Part) PduFault) (fault : PduFault) → before part read ≡ Err fault → read ≡ Err fault
before_err part read fault e = grind arith

-- the first segment's fault, or none and a fault of what follows
unless_err : (first : Option PduFault) (read : Result (List Part) PduFault) (fault : PduFault) → unless first read ≡ Err fault → ((first ≡ None) × (read ≡ Err fault)) ⊎ (first ≡ Some fault)
unless_err first read fault e = grind (arith, bad_parts_same)

some_same : (x y : PduFault) → (let o : PduFault → Option PduFault = λ f. Some f in o x ≡ o y) → x ≡ y
some_same x y e = cc

fault_here : (from header count : ℕ) (octets : List ℕ) (fault : PduFault) → fault_at from header count (length octets) ≡ Some fault → FaultFrom from fault (header ∷ count ∷ octets)
fault_here from header count octets fault e =
    grind (arith, cases_Bool, ltb, length, ltb-true, some_same, here, ltb-false, cond, eqb, and_parts, eqb-true)

fault_within : (n from : ℕ) (octets : List ℕ) (fault : PduFault) → length octets ≤ n → parts_from from zero octets ≡ Err fault → FaultFrom from fault octets
unfolding parts_from
fault_within n from [] fault h e = absurd cc
fault_within n from (header ∷ []) fault h e = grind (arith, bad_parts_same, here)
fault_within zero from (header ∷ count ∷ octets) fault h e = absurd (omega arith)
fault_within (suc n) from (header ∷ count ∷ octets) fault h e =
    elim (unless_err (fault_at from header count (length octets)) (before (part_at header (take count octets)) (parts_from (from + 1) (suc count) (count ∷ octets))) fault e) [
      | inr first ↦ fault_here from header count octets fault first
      | inl later ↦
          let none = later.0 in
          let fits : (count ≤ length octets) × (header % 2 ≡ 0 → 3 ≤ count) = fault_at-none from header count (length octets) none in
          let body = take count octets in
          let long : length body ≡ count = omega (arith, length-take count octets, fits.0) in
          let read : before (part_at header body) (parts_from (from + (count + 2)) zero (drop count octets)) ≡ Err fault = sym (parts_from-whole from header count octets none) ∙ e in
          let there : from + (count + 2) ≡ from + length (header ∷ count ∷ body) = omega arith in
          let behind : parts_from (from + length (header ∷ count ∷ body)) zero (drop count octets) ≡ Err fault =
          rw (← there) (before_err (part_at header body) (parts_from (from + (count + 2)) zero (drop count octets)) fault read) in
          let is : SegmentIs (part_at header body) (header ∷ count ∷ body) = (header, body, part_at-is header body (λ even. rw long (fits.1 even)), ap (λ (k : ℕ). header ∷ k ∷ body) (sym long)) in
          let whole : header ∷ count ∷ octets ≡ (header ∷ count ∷ body) ++ drop count octets = ap (λ (os : List ℕ). header ∷ count ∷ os) (sym (take-append-drop count octets)) in
          fault_later fault from (part_at header body) (header ∷ count ∷ body) (drop count octets) (header ∷ count ∷ octets) is whole
          (fault_within n (from + length (header ∷ count ∷ body)) (drop count octets) fault (omega (arith, length-drop count octets)) behind)
    ]

framed_fault : (max_pdu header : ℕ) (payload : List ℕ) (fault : PduFault) → length payload ≤ max_pdu → header % 4 ≡ 2 → FaultFrom 0 fault payload
    → FaultIs max_pdu fault (header ∷ length payload ∷ payload)
framed_fault max_pdu header payload fault within kind h = grind arith

pub read_of-fault : (max_pdu : ℕ) (fault : PduFault) (octets : List ℕ) → read_of max_pdu octets ≡ Err fault → FaultIs max_pdu fault octets
unfolding read_of
read_of-fault max_pdu fault [] e = subst (λ (f : PduFault). FaultIs max_pdu f []) (bad_same Short fault e) (omega arith)
read_of-fault max_pdu fault (header ∷ []) e = subst (λ (f : PduFault). FaultIs max_pdu f (header ∷ [])) (bad_same Short fault e) (omega arith)
read_of-fault max_pdu fault (header ∷ count ∷ payload) e =
    elim (cases_Bool (eqb count (length payload))) [
      | inr differs ↦ grind (arith, bad_same, eqb-false)
      | inl same ↦
          let e' : cond (ltb max_pdu count) (bad TooLong) (content_at (header % 4) payload) ≡ bad fault = rw same at e in
          let count_is : count ≡ length payload = eqb-true _ _ same in
          elim (cases_Bool (ltb max_pdu count)) [
            | inl above ↦ grind (arith, ltb-true, bad_same)
            | inr within ↦
                let e'' : content_at (header % 4) payload ≡ bad fault = rw within at e' in
                let fits : count ≤ max_pdu = ltb-false _ _ within in
                let framed_is = content_at-err (header % 4) payload fault e'' in
                let at_cut : FaultFrom 0 fault payload = fault_within (length payload) 0 payload fault (omega arith) framed_is.1 in
                subst (λ (k : ℕ). FaultIs max_pdu fault (header ∷ k ∷ payload)) (sym count_is) (framed_fault max_pdu header payload fault (omega arith) framed_is.0 at_cut)
          ]
    ]

stands_short : (place : ℕ) (rest : List ℕ) → StandsShort rest → parts_from place zero rest ≡ Err (SegmentShort place)
unfolding parts_from
stands_short place rest h = grind (arith, ltb, length, lt-ltb)

stands_no_offset : (place : ℕ) (rest : List ℕ) → StandsNoOffset rest → parts_from place zero rest ≡ Err (SegmentNoOffset place)
unfolding parts_from
stands_no_offset place rest h = grind (arith, ltb, length, le-ltb, eqb, eq-eqb, lt-ltb)

at_cut_read : (P : List ℕ → Type 0) (fault : ℕ → PduFault) (place : ℕ) (payload : List ℕ) → ((at : ℕ) (rest : List ℕ) → P rest → parts_from at zero rest ≡ Err (fault at))
    → AtCut P place payload → parts_of payload ≡ Err (fault place)
at_cut_read P fault place payload stands cut =
    let rest_read : parts_from (0 + length cut.1) zero cut.2 ≡ Err (fault (0 + length cut.1)) = stands (0 + length cut.1) cut.2 cut.5 in
    let there : 0 + length cut.1 ≡ place = omega (arith, cut.4) in
    rw cut.6 (grind (arith, parts_from-segments cut.0 0 cut.1 cut.2 cut.3, befores-err cut.0 (fault (0 + length cut.1))))

in_framed_read : (P : List ℕ → Type 0) (fault : PduFault) (max_pdu : ℕ) (octets : List ℕ) → ((payload : List ℕ) → P payload → parts_of payload ≡ Err fault) → InFramed max_pdu P octets
    → read_of max_pdu octets ≡ Err fault
in_framed_read P fault max_pdu octets read is = grind (arith, parts_of, read_of-whole, content_at, framed_of)

pub fault-read_of : (max_pdu : ℕ) (fault : PduFault) (octets : List ℕ) → FaultIs max_pdu fault octets → read_of max_pdu octets ≡ Err fault
unfolding read_of
fault-read_of max_pdu Short [] h = refl
fault-read_of max_pdu Short (header ∷ []) h = refl
fault-read_of max_pdu Short (header ∷ count ∷ payload) h = absurd (omega arith)
fault-read_of max_pdu LengthDiffers octets h = grind (arith, eqb, length, ne_eqb)
fault-read_of max_pdu TooLong octets h = grind (arith, eqb, length, eq-eqb, ltb, lt-ltb)
fault-read_of max_pdu (SegmentShort place) octets h =
    in_framed_read (AtCut StandsShort place) (SegmentShort place) max_pdu octets (λ payload cut. at_cut_read StandsShort SegmentShort place payload stands_short cut) h
fault-read_of max_pdu (SegmentNoOffset place) octets h =
    in_framed_read (AtCut StandsNoOffset place) (SegmentNoOffset place) max_pdu octets (λ payload cut. at_cut_read StandsNoOffset SegmentNoOffset place payload stands_no_offset cut) h

-- ---- what is written

header_flag : (sc : ℕ) (complete : Bool) → sc < 2 → IsSegmentHeader sc complete (sc + 2 * bit complete)
header_flag sc complete h = grind arith

offset_encoded : (offset : ℕ) → Le offset (offset_octets offset)
offset_encoded offset = omega arith

pub segment-is : (part : Part) → SegmentIs part (segment part)
segment-is (start offset complete octets) =
    let three : 3 + length octets ≡ length (offset_octets offset ++ octets) = omega arith in
    let header : IsSegmentHeader 0 complete (2 * bit complete) = subst (λ (h : ℕ). IsSegmentHeader 0 complete h) (omega arith) (header_flag 0 complete (omega arith)) in
    (2 * bit complete, offset_octets offset ++ octets, (header, offset_octets offset, refl, offset_encoded offset, refl), ap (λ (k : ℕ). 2 * bit complete ∷ k ∷ (offset_octets offset ++ octets)) three)
segment-is (more complete octets) = grind (arith, bit, header_flag)

pub segments-are : (parts : List Part) → SegmentsAre parts (segments parts)
segments-are [] = refl
segments-are (part ∷ parts) = (segment part, segments parts, segment-is part, segments-are parts, refl)

pub pdu-is : (content : Content) → PduIs content (pdu content)
pdu-is content = grind (arith, llid, payload_of, end, fragment, framed, control, segments-are)

pub read_of-pdu : (max_pdu : ℕ) (content : Content) → length (payload_of content) ≤ max_pdu → read_of max_pdu (pdu content) ≡ Ok content
read_of-pdu max_pdu content h = read_of-layout max_pdu content (pdu content) (pdu-is content, omega arith)

-- ---- a framed PDU that was read

pub read_long : (max_pdu : ℕ) (octets : List ℕ) (content : Content) → read_of max_pdu octets ≡ Ok content → 2 ≤ length octets
unfolding read_of
read_long max_pdu [] content e = grind arith
read_long max_pdu (header ∷ []) content e = grind arith
read_long max_pdu (header ∷ count ∷ payload) content e = omega arith

pub read_parts : (max_pdu : ℕ) (octets : List ℕ) (parts : List Part) → read_of max_pdu octets ≡ Ok (framed parts) → parts_of (drop 2 octets) ≡ Ok parts
read_parts max_pdu octets parts e = grind (arith, drop, parts_of, framed, read_of-encoded, parts_from-layout)

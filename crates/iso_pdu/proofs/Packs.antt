-- A segment put behind others.
use Rattle.iso_pdu.proofs.Prelude.{◌≡◌, ℕ, ◌+◌, ◌-◌, ◌*◌, ◌<◌, ◌≤◌, List, [], ◌∷◌, ◌++◌, zero, suc, length, take, drop, set, get_or, refl, sym, ap, ◌∙◌, arith, append_assoc, length-append, length-take, length-drop, Bool, append-nil, drop-take, take_more_set, length-set, take-put_mid, Part, start, more, framed, bit, parts_in, offset_octets, segment, segments, pdu}
use Rattle.std.proofs.Math.Seq.{take-set-lt}
use borrow.Rule.Slice.PartMut.{put_mid}
use Rattle.iso_pdu.specs.State.Packing.{Packed, room_in, packed_in, IsPacked}
use Rattle.iso_pdu.proofs.PartsRead.{parts_from-layout}
use Rattle.iso_pdu.proofs.PdusRead.{segments-are}

segments-push : (parts : List Part) (part : Part) → segments (parts ++ part ∷ []) ≡ segments parts ++ segment part
segments-push [] part = append-nil (segment part)
segments-push (first ∷ parts) part = ap (λ (os : List ℕ). segment first ++ os) (segments-push parts part) ∙ sym (append_assoc (segment first) (segments parts) (segment part))

parts_in-segments : (parts : List Part) → parts_in (segments parts) ≡ parts
parts_in-segments parts = rw (parts_from-layout 0 (segments parts) parts (segments-are parts)) refl

-- what a put leaves
pub record Puts (max_pdu end : ℕ) (octets : List ℕ) (end' : ℕ) (octets' : List ℕ) (part : Part) : Type 0 where
  pub packed : IsPacked max_pdu end' octets'
  pub parts : parts_in (drop 2 (take end' octets')) ≡ parts_in (drop 2 (take end octets)) ++ part ∷ []
  pub room : room_in (packed_in max_pdu end' octets') + length (segment part) ≡ room_in (packed_in max_pdu end octets)

pub length-packed : (max_pdu end : ℕ) (octets : List ℕ) → length octets ≡ 253 → IsPacked max_pdu end octets
    → 2 + length (segments (parts_in (drop 2 (take end octets)))) ≡ end
length-packed max_pdu end octets whole packed = omega (arith, ap length packed.encoded, length-take end octets, packed.within, packed.greatest)

-- behind the header and the Length stand the segments
pub payload-packed : (max_pdu end : ℕ) (octets : List ℕ) → length octets ≡ 253 → IsPacked max_pdu end octets
    → take (end - 2) (drop 2 octets) ≡ segments (parts_in (drop 2 (take end octets)))
payload-packed max_pdu end octets whole packed =
    let sum : 2 + (end - 2) ≡ end = omega (arith, length-packed max_pdu end octets whole packed) in
    sym (drop-take 2 (end - 2) octets) ∙ ap (λ (n : ℕ). drop 2 (take n octets)) sum ∙ ap (λ (os : List ℕ). drop 2 os) packed.encoded

-- a put of so many octets more stays within
pub put_fits : (max_pdu end : ℕ) (octets : List ℕ) (packed : Packed) (count : ℕ) → packed_in max_pdu end octets ≡ packed → length octets ≡ 253
    → IsPacked max_pdu end octets → count ≤ room_in packed → end + count ≤ 253
put_fits max_pdu end octets packed count seen whole sound room =
    omega (arith, room, ap room_in seen, length-packed max_pdu end octets whole sound, sound.within, sound.greatest)

-- the octets behind a put, where they are a segment's
abbrev pub PutsOctets : ℕ → List ℕ → ℕ → List ℕ → List ℕ → Type 0
PutsOctets end octets end' octets' encoded = (first long : ℕ) (rest : List ℕ) → take end octets ≡ first ∷ long ∷ rest
    → take end' octets' ≡ first ∷ (end' - 2) ∷ (rest ++ encoded)

pub put_packed : (max_pdu end : ℕ) (octets : List ℕ) (end' : ℕ) (octets' : List ℕ) (part : Part) → length octets ≡ 253
    → IsPacked max_pdu end octets → length (segment part) ≤ room_in (packed_in max_pdu end octets) → 0 < length (segment part)
    → end' ≡ end + length (segment part) → PutsOctets end octets end' octets' (segment part) → Puts max_pdu end octets end' octets' part
put_packed max_pdu end octets end' octets' part whole packed room some end'_is put =
    let old = parts_in (drop 2 (take end octets)) in
    let all = old ++ part ∷ [] in
    let put_is = put 2 (length (segments old)) (segments old) packed.encoded in
    let long : 2 + length (segments old) ≡ end = length-packed max_pdu end octets whole packed in
    let longer : length (segments all) ≡ length (segments old) + length (segment part) = ap length (segments-push old part) ∙ length-append (segments old) (segment part) in
    let count : end' - 2 ≡ length (segments all) = omega (arith, longer, long, end'_is) in
    let pushed : take end' octets' ≡ pdu (framed all) = put_is ∙ rw (count, segments-push old part) refl in
    let parts_is : parts_in (drop 2 (take end' octets')) ≡ all = ap (λ (os : List ℕ). parts_in (drop 2 os)) pushed ∙ parts_in-segments all in
    record {
      packed = record { greatest = packed.greatest; within = omega (arith, long, end'_is, room, packed.within); encoded = pushed ∙ ap (λ (ps : List Part). pdu (framed ps)) (sym parts_is) };
      parts = parts_is;
      room = rw parts_is (omega (arith, longer, long, room, some));
    }

-- what a put of octets leaves, where they are a segment's
put_encoded : (max_pdu end : ℕ) (octets : List ℕ) (end' : ℕ) (octets' : List ℕ) (part : Part) (header : ℕ) (offset body : List ℕ) (packed : Packed) → packed_in max_pdu end octets ≡ packed
    → length octets ≡ 253 → IsPacked max_pdu end octets → segment part ≡ header ∷ (length offset + length body) ∷ (offset ++ body) → 2 + length offset + length body ≤ room_in packed
    → end' ≡ end + 2 + length offset + length body → PutsOctets end octets end' octets' (header ∷ (length offset + length body) ∷ (offset ++ body))
    → Puts max_pdu end octets end' octets' part
put_encoded max_pdu end octets end' octets' part header offset body packed seen whole sound encoded room end'_is put =
    let long : length (segment part) ≡ 2 + length offset + length body = rw encoded (omega (arith, length-append offset body)) in
    let room_is : room_in (packed_in max_pdu end octets) ≡ room_in packed = ap room_in seen in
    put_packed max_pdu end octets end' octets' part whole sound (omega (arith, long, room_is, room)) (omega (arith, long)) (omega (arith, long, end'_is))
    (λ first count rest is. put first count rest is ∙ ap (λ (os : List ℕ). first ∷ (end' - 2) ∷ (rest ++ os)) (sym encoded))

pub put_start_packed : (max_pdu end : ℕ) (octets : List ℕ) (end' : ℕ) (octets' : List ℕ) (time header : ℕ) (complete : Bool) (offset body : List ℕ) (packed : Packed)
    → packed_in max_pdu end octets ≡ packed
    → length octets ≡ 253 → IsPacked max_pdu end octets → offset ≡ offset_octets time → header ≡ 0 + 2 * bit complete → 5 + length body ≤ room_in packed
    → end' ≡ end + 2 + length offset + length body → PutsOctets end octets end' octets' (header ∷ (length offset + length body) ∷ (offset ++ body))
    → Puts max_pdu end octets end' octets' (start time complete body)
put_start_packed max_pdu end octets end' octets' time header complete offset body packed seen whole sound offset_is header_is room end'_is put =
    let long : length offset ≡ 3 = ap length offset_is in
    let head : 2 * bit complete ≡ header = omega (arith, header_is) in
    let count : 3 + length body ≡ length offset + length body = omega (arith, long) in
    let encoded : segment (start time complete body) ≡ header ∷ (length offset + length body) ∷ (offset ++ body) = rw (head, count, offset_is) refl in
    put_encoded max_pdu end octets end' octets' (start time complete body) header offset body packed seen whole sound encoded (omega (arith, long, room)) end'_is put

pub put_more_packed : (max_pdu end : ℕ) (octets : List ℕ) (end' : ℕ) (octets' : List ℕ) (header : ℕ) (complete : Bool) (body : List ℕ) (packed : Packed) → packed_in max_pdu end octets ≡ packed
    → length octets ≡ 253 → IsPacked max_pdu end octets → header ≡ 1 + 2 * bit complete → 2 + length body ≤ room_in packed
    → end' ≡ end + 2 + 0 + length body → PutsOctets end octets end' octets' (header ∷ (0 + length body) ∷ body)
    → Puts max_pdu end octets end' octets' (more complete body)
put_more_packed max_pdu end octets end' octets' header complete body packed seen whole sound header_is room end'_is put =
    let count : length body ≡ 0 + length body = omega arith in
    let encoded : segment (more complete body) ≡ header ∷ (0 + length body) ∷ body = rw (← header_is, ← count) refl in
    put_encoded max_pdu end octets end' octets' (more complete body) header [] body packed seen whole sound encoded (omega (arith, room)) end'_is put

-- two octets, and two slices behind them
pub written : (octets : List ℕ) (len header count : ℕ) (offset part : List ℕ) (k n m : ℕ) → len + 2 + length offset + length part ≤ length octets
    → k ≡ len + 2 + length offset → n ≡ length offset → m ≡ length part
    → take (k + length part) (put_mid k m (put_mid (len + 2) n (set (set octets len header) (len + 1) count) offset) part) ≡ take len octets ++ header ∷ count ∷ (offset ++ part)
written octets len header count offset part k n m room k_is n_is m_is =
    let first = set octets len header in
    let second = set first (len + 1) count in
    let first_len : length first ≡ length octets = simp length-set in
    let second_len : length second ≡ length octets = simp length-set in
    let third_len : length (put_mid (len + 2) n second offset) ≡ length octets = omega (
      arith,
      length-append (take (len + 2) second) (offset ++ drop n (drop (len + 2) second)),
      length-append offset (drop n (drop (len + 2) second)),
      length-take (len + 2) second,
      length-drop n (drop (len + 2) second),
      length-drop (len + 2) second,
    ) in
    let one : take (len + 1) first ≡ take len octets ++ header ∷ [] = take_more_set octets len header (omega arith) in
    let two : take (len + 1 + 1) second ≡ take (len + 1) first ++ count ∷ [] = take_more_set first (len + 1) count (omega arith) in
    let sum : len + 1 + 1 ≡ len + 2 = omega arith in
    let three : take k (put_mid (len + 2) n second offset) ≡ take (len + 2) second ++ offset = take-put_mid (len + 2) n second offset k k_is (omega arith) in
    take-put_mid k m (put_mid (len + 2) n second offset) part (k + length part) refl (omega arith)
    ∙ ap (λ (os : List ℕ). os ++ part) (three ∙ ap (λ (os : List ℕ). os ++ offset) (ap (λ (j : ℕ). take j second) (sym sum) ∙ two ∙ ap (λ (os : List ℕ). os ++ count ∷ []) one))
    ∙ simp append_assoc

-- the same where the octets before them are a header and a Length, and the Length is written anew
pub written_anew : (octets : List ℕ) (first long : ℕ) (rest : List ℕ) (end header count : ℕ) (offset part : List ℕ) (k n m length' : ℕ) → 2 ≤ end
    → end + 2 + length offset + length part ≤ length octets → k ≡ end + 2 + length offset → n ≡ length offset → m ≡ length part
    → take end octets ≡ first ∷ long ∷ rest
    → take (k + length part) (set (put_mid k m (put_mid (end + 2) n (set (set octets end header) (end + 1) count) offset) part) 1 length')
    ≡ first ∷ length' ∷ (rest ++ header ∷ count ∷ (offset ++ part))
written_anew octets first long rest end header count offset part k n m length' some room k_is n_is m_is is =
    grind (arith, take-set-lt, length, put_mid, set, written)

-- a header alone is a PDU of no segments
pub header_alone : (octets : List ℕ) (end first long : ℕ) (rest : List ℕ) → take end octets ≡ first ∷ long ∷ rest → take 2 (set octets 1 0) ≡ first ∷ 0 ∷ []
header_alone octets zero first long rest is = absurd (omega (arith, ap length is))
header_alone [] (suc end) first long rest is = absurd (omega (arith, ap length is))
header_alone (x ∷ []) (suc zero) first long rest is = absurd (omega (arith, ap length is))
header_alone (x ∷ []) (suc (suc end)) first long rest is = absurd (omega (arith, ap length is))
header_alone (x ∷ y ∷ octets) (suc zero) first long rest is = absurd (omega (arith, ap length is))
header_alone (x ∷ y ∷ octets) (suc (suc end)) first long rest is = ap (λ (os : List ℕ). get_or os 0 0 ∷ 0 ∷ []) is

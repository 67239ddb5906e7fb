-- The octets of an info are the same, but for the one of RFU.
use Rattle.big_info.proofs.Prelude.{◌≡◌, ◌≤◌, ◌<◌, ℕ, suc, ◌+◌, ◌*◌, ◌^◌, List, [], ◌∷◌, ◌++◌, length, take, drop, get_or, refl, sym, ◌∙◌, ap, arith, length-take, length-drop, take-append-drop, drop-drop, get_or-take, get_or-drop, sum_from, sum_from-cons, BigInfo, Encodes, AreOctets, SameButRfu, FitsWidths}
use Rattle.big_info.proofs.Ciphers.{one_behind}
use Rattle.big_info.proofs.Fields.{low_digit, above_digit}
use Rattle.big_info.proofs.Sums.{sum_from-word, sum_from-more, sum_from-part}

-- a number has one encoding of a length
encoded_once : (one other : List ℕ) → length one ≡ length other → ((i : ℕ) → i < length one → get_or one i 0 < 256) → ((i : ℕ) → i < length other → get_or other i 0 < 256)
    → sum_from 0 one ≡ sum_from 0 other → one ≡ other
encoded_once [] [] long h k e = refl
encoded_once [] (y ∷ ys) long h k e = absurd (omega arith)
encoded_once (x ∷ xs) [] long h k e = absurd (omega arith)
encoded_once (x ∷ xs) (y ∷ ys) long h k e =
    let fits : x < 256 = h 0 (omega arith) in
    let also : y < 256 = k 0 (omega arith) in
    let sums : 256 * sum_from 0 xs + x ≡ 256 * sum_from 0 ys + y = sym (sum_from-cons x xs) ∙ e ∙ sum_from-cons y ys in
    let first : x ≡ y = omega (arith, sums) in
    let rest : xs ≡ ys = encoded_once xs ys (omega (arith, long)) (λ i p. h (suc i) (omega (arith, p))) (λ i p. k (suc i) (omega (arith, p))) (omega (arith, sums)) in
    ap (λ (n : ℕ). n ∷ xs) first ∙ ap (λ (ns : List ℕ). y ∷ ns) rest

part_octets : (place count : ℕ) (octets : List ℕ) → AreOctets octets → (i : ℕ) → i < length (take count (drop place octets)) → get_or (take count (drop place octets)) i 0 < 256
part_octets place count octets fits i h = grind (arith, get_or, take, drop, get_or-take, length-take, get_or-drop)

part_once : (place count : ℕ) (one other : List ℕ) → place + count ≤ length one → place + count ≤ length other → AreOctets one → AreOctets other
    → sum_from 0 (take count (drop place one)) ≡ sum_from 0 (take count (drop place other)) → take count (drop place one) ≡ take count (drop place other)
part_once place count one other p q h k e = grind (arith, encoded_once, take, drop, length-take, length-drop, part_octets)

-- the fields before RFU, and those behind it
abbrev before_rfu : BigInfo → ℕ
before_rfu info =
    info.big_offset + 2 ^ 14 * info.big_offset_units + 2 ^ 15 * info.iso_interval + 2 ^ 27 * info.num_bis + 2 ^ 32 * info.nse + 2 ^ 37 * info.bn +
    2 ^ 40 * info.sub_interval + 2 ^ 60 * info.pto + 2 ^ 64 * info.bis_spacing + 2 ^ 84 * info.irc + 2 ^ 88 * info.max_pdu

abbrev behind_rfu : BigInfo → ℕ
behind_rfu info =
    info.seed_access_address + 2 ^ 32 * info.sdu_interval + 2 ^ 52 * info.max_sdu + 2 ^ 64 * info.base_crc_init + 2 ^ 80 * info.chm +
    2 ^ 117 * info.phy + 2 ^ 120 * info.bis_payload_count + 2 ^ 159 * info.framing

before_small : (info : BigInfo) → FitsWidths info → before_rfu info < 2 ^ 96
before_small info h = grind arith

-- the octets encode both
record Halves (info : BigInfo) (octets : List ℕ) : Type 0 where
  before : sum_from 0 (take 12 (drop 0 octets)) ≡ before_rfu info
  behind : sum_from 0 (take 20 (drop 13 octets)) ≡ behind_rfu info

halves : (info : BigInfo) (rfu : ℕ) (octets : List ℕ) → AreOctets octets → Encodes info rfu octets → Halves info octets
halves info rfu octets fits h =
    let low = sum_from 0 (take 12 octets) in
    let at = get_or octets 12 0 in
    let high = sum_from 0 (take 20 (drop 13 octets)) in
    let whole : sum_from 0 (take 33 octets) ≡ sum_from 0 (take 13 octets) + 256 ^ 13 * high = sum_from-word 13 20 octets (omega (arith, h.whole)) in
    let more : sum_from 0 (take 13 octets) ≡ low + 256 ^ 12 * at = sum_from-more 12 octets (omega (arith, h.whole)) in
    let same : low + 2 ^ 96 * (at + 2 ^ 8 * high) ≡ before_rfu info + 2 ^ 96 * (rfu + 2 ^ 8 * behind_rfu info) = omega (arith, whole, more, h.fields) in
    let small : low < 2 ^ 96 = sum_from-part 0 12 octets (omega (arith, h.whole)) fits in
    let also : before_rfu info < 2 ^ 96 = before_small info h.widths in
    let above : at + 2 ^ 8 * high ≡ rfu + 2 ^ 8 * behind_rfu info =
    above_digit (2 ^ 96) low (at + 2 ^ 8 * high) (before_rfu info) (rfu + 2 ^ 8 * behind_rfu info) small also same in
    record {
      before = low_digit (2 ^ 96) low (at + 2 ^ 8 * high) (before_rfu info) (rfu + 2 ^ 8 * behind_rfu info) small also same;
      behind = above_digit (2 ^ 8) at high rfu (behind_rfu info) (fits 12) h.rfu_width above;
    }

-- behind RFU stand the last of the first 33 octets, and what is behind these
split : (octets : List ℕ) → drop 13 octets ≡ take 20 (drop 13 octets) ++ drop 33 octets
split octets = sym (take-append-drop 20 (drop 13 octets)) ∙ ap (λ (xs : List ℕ). take 20 (drop 13 octets) ++ xs) (drop-drop 20 13 octets)

pub one_encoding : (info : BigInfo) (r s : ℕ) (one other : List ℕ) → AreOctets one → AreOctets other → Encodes info r one → Encodes info s other → SameButRfu one other
one_encoding info r s one other p q h k =
    let first = halves info r one p h in
    let second = halves info s other q k in
    let behind : take 20 (drop 13 one) ≡ take 20 (drop 13 other) =
    part_once 13 20 one other (omega (arith, h.whole)) (omega (arith, k.whole)) p q (first.behind ∙ sym second.behind) in
    let last : drop 33 one ≡ drop 33 other = one_behind info.cipher (drop 33 one) (drop 33 other) h.cipher k.cipher in
    record {
      before = part_once 0 12 one other (omega (arith, h.whole)) (omega (arith, k.whole)) p q (first.before ∙ sym second.before);
      behind = split one ∙ ap (λ (xs : List ℕ). xs ++ drop 33 one) behind ∙ ap (λ (xs : List ℕ). take 20 (drop 13 other) ++ xs) last ∙ sym (split other);
    }

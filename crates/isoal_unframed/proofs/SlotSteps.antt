-- The PDUs of a slot, one behind the other.
use Rattle.isoal_unframed.proofs.Prelude.{ℕ, ◌≡◌, ◌<◌, ◌≤◌, ◌+◌, zero, suc, List, [], length, take, drop, Some, None, arith, ap, refl, inl, inr, add-div_right, add-mod_right, mod-eq_of_lt, cases_lt, cases_order, eq-eqb, le-ltb, lt-ltb, ne_eqb, append-nil, drop-drop, length-drop, take-append-drop, div-mul-add, div_below, le-div, mod-mul-add, mul-le, div_ceil_times, div_ceil, flat_map, range_with_len, fragment, end, payload_of, pdu, fragments_of, laid_unit, Begins}
use Rattle.isoal_unframed.proofs.Rows.{flat_map_nothing, flat_map_same, map_same}

ceil_more : (n k : ℕ) → 1 ≤ k → div_ceil (n + k) k ≡ suc (div_ceil n k)
ceil_more n k some = grind (arith, add-div_right, add-mod_right)

ceil_some : (n k : ℕ) → 1 ≤ k → 1 ≤ n → 1 ≤ div_ceil n k
ceil_some n k some more = grind (arith, cases_lt, mod-eq_of_lt, le-div)

-- a unit of more than a PDU has one fragment more than what is left of it behind the first
fragments_more : (max_pdu : ℕ) (unit : List ℕ) → 1 ≤ max_pdu → max_pdu < length unit
    → fragments_of max_pdu unit ≡ suc (fragments_of max_pdu (drop max_pdu unit))
fragments_more max_pdu unit some long = grind (arith, length-drop, ceil_more, ceil_some)

-- a unit of at most a PDU is an end alone
fragments_one : (max_pdu : ℕ) (unit : List ℕ) → 1 ≤ max_pdu → length unit ≤ max_pdu → fragments_of max_pdu unit ≡ 1
fragments_one max_pdu unit some short = grind (arith, cases_lt, div_below, div-mul-add, mod-mul-add)

-- the first PDU of a unit of more than a PDU, and what follows it
long_first : (max_pdu : ℕ) (unit : List ℕ) → 1 ≤ max_pdu → max_pdu < length unit → laid_unit max_pdu unit 0 ≡ fragment (take max_pdu unit)
long_first max_pdu unit some long = grind (arith, fragments_more, lt-ltb)

long_step : (max_pdu : ℕ) (unit : List ℕ) (r : ℕ) → 1 ≤ max_pdu → max_pdu < length unit → laid_unit max_pdu unit (suc r) ≡ laid_unit max_pdu (drop max_pdu unit) r
long_step max_pdu unit r some long = grind (arith, fragments_more, drop-drop, cases_order, le-ltb, eq-eqb, lt-ltb, ne_eqb)

-- a unit of at most a PDU, and what follows it
short_first : (max_pdu : ℕ) (unit : List ℕ) → 1 ≤ max_pdu → length unit ≤ max_pdu → laid_unit max_pdu unit 0 ≡ end unit
short_first max_pdu unit some short = grind (arith, fragments_one)

short_step : (max_pdu : ℕ) (unit : List ℕ) (r : ℕ) → 1 ≤ max_pdu → length unit ≤ max_pdu → laid_unit max_pdu unit (suc r) ≡ fragment []
short_step max_pdu unit r some short = grind (arith, fragments_one, le-ltb, ne_eqb)

pub begins_long : (max_pdu : ℕ) (unit : List ℕ) → 1 ≤ max_pdu → max_pdu < length unit
    → Begins max_pdu (Some unit) (pdu (fragment (take max_pdu unit))) (Some (drop max_pdu unit))
begins_long max_pdu unit some long = record {
  goes = λ n.
      let here = ap pdu (long_first max_pdu unit some long) in
      let rest = map_same (λ r. pdu (laid_unit max_pdu unit r)) (λ r. pdu (laid_unit max_pdu (drop max_pdu unit) r)) 1 0 n (λ i below.
      let left : 1 + i ≡ suc i = omega arith in
      let right : 0 + i ≡ i = omega arith in
      rw (left, right) (ap pdu (long_step max_pdu unit i some long))) in
      rw (here, rest) refl;
}

pub begins_short : (max_pdu : ℕ) (unit : List ℕ) → 1 ≤ max_pdu → length unit ≤ max_pdu → Begins max_pdu (Some unit) (pdu (end unit)) None
begins_short max_pdu unit some short = record {
  goes = λ n.
      let here = ap pdu (short_first max_pdu unit some short) in
      let rest = map_same (λ r. pdu (laid_unit max_pdu unit r)) (λ r. pdu (fragment [])) 1 0 n (grind (arith, short_step)) in
      rw (here, rest) refl;
}

pub begins_none : (max_pdu : ℕ) → Begins max_pdu None (pdu (fragment [])) None
begins_none max_pdu = grind (arith, map_same)

-- a unit of at most so many octets has at most as many fragments as a unit of just so many
pub fragments_fit : (max_pdu max_sdu : ℕ) (unit : List ℕ) → 1 ≤ max_pdu → 1 ≤ max_sdu → length unit ≤ max_sdu → fragments_of max_pdu unit ≤ div_ceil max_sdu max_pdu
fragments_fit max_pdu max_sdu unit some octets fits = grind (arith, cases_lt, div_ceil_times, mul-le, ceil_some)

-- the PDUs of a slot carry the octets of its unit
pub slot_carries : (max_pdu count : ℕ) (unit : List ℕ) → 1 ≤ max_pdu → fragments_of max_pdu unit ≤ count
    → flat_map (λ r. payload_of (laid_unit max_pdu unit r)) (range_with_len 0 count) ≡ unit
slot_carries max_pdu zero unit some enough = absurd (omega (arith, enough))
slot_carries max_pdu (suc n) unit some enough = elim (cases_lt max_pdu (length unit)) [
  | inl long ↦
      let rest = drop max_pdu unit in
      let here = ap payload_of (long_first max_pdu unit some long) in
      let others = flat_map_same (λ r. payload_of (laid_unit max_pdu unit r)) (λ r. payload_of (laid_unit max_pdu rest r)) 1 0 n (λ i below.
      let left : 1 + i ≡ suc i = omega arith in
      let right : 0 + i ≡ i = omega arith in
      rw (left, right) (ap payload_of (long_step max_pdu unit i some long))) in
      rw (here, others, slot_carries max_pdu n rest some (omega (arith, enough, fragments_more max_pdu unit some long))) (take-append-drop max_pdu unit)
  | inr short ↦
      let here = ap payload_of (short_first max_pdu unit some short) in
      let others = flat_map_nothing (λ r. payload_of (laid_unit max_pdu unit r)) 1 n (λ i below.
      let left : 1 + i ≡ suc i = omega arith in
      rw left (ap payload_of (short_step max_pdu unit i some short))) in
      rw (here, others) (append-nil unit)
]

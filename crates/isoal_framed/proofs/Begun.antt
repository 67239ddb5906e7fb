-- The units that begin at a number that is heard, and at one that is not.
use Rattle.isoal_framed.proofs.Prelude.{ℕ, suc, ◌≡◌, ◌+◌, ◌-◌, ◌/◌, ◌<◌, ◌≤◌, inl, inr, true, false, Bool, ◌&&◌, cond, List, [], ◌∷◌, ◌++◌, map, length, Option, Some, None, refl, sym, ap, ◌∙◌, subst, arith, length-append, flat_map, cases_Bool, cases_order, and_from, and_left, cond-true, cond-false, le-leb, and_right, append-nil, none-some, valid, Stay, Token, starts, token_of, time_of, Run, hands, hands_joined, run_joined, Fit, Sent, octets_in, is_last, parts_at, InOrder, entry_of}
use Rattle.isoal_framed.specs.Struck.{behind}
use Rattle.isoal_framed.proofs.Entries.{scan, scan_run, entry_heard, entry_missed, scan_end, carried_here, carried_later, none_here, toks, toks_same, toks_none}

-- what an octet string adds to a run that has room for it
pub joined_fits : (max_sdu bis time : ℕ) (octets : List ℕ) → length octets ≤ max_sdu
    → (hands_joined max_sdu bis time true octets ≡ valid bis time octets ∷ []) × (hands_joined max_sdu bis time false octets ≡ [])
    × (run_joined max_sdu time true octets ≡ None) × (run_joined max_sdu time false octets ≡ Some (record { time = time; octets = octets }))
joined_fits max_sdu bis time octets fits = search (le-leb, cond-true)

-- what is to show, for so many numbers from here on, up to the closed ones
unfoldable pub Shown : Stay → (ℕ → Bool) → ℕ → ℕ → ℕ → Type 0
Shown stay heard closed from n =
    (segments : List (List ℕ)) → (whole : Bool) → (run : Option Run) → (units : List Sent)
    → (segments ≡ [] → run ≡ None) → (segments ≡ [] → InOrder from closed units) → (1 ≤ length segments → InOrder (from + length segments - 1) closed units)
    → (whole ≡ false → 1 ≤ length segments → (units ≡ []) × (closed ≤ from + length segments))
    → ((r : Run) → run ≡ Some r → length (r.octets ++ octets_in segments) ≤ stay.info.max_sdu) → Fit stay.info.max_sdu units
    → hands stay.info.max_sdu stay.bis run (toks stay heard from segments whole units from n)
    ≡ scan_run heard closed stay.bis whole run from segments ++ flat_map (entry_of stay heard closed) units

-- without a unit that goes on
shown_none : (stay : Stay) (heard : ℕ → Bool) (closed from n : ℕ) (whole : Bool) (units : List Sent) → Shown stay heard closed from n
    → InOrder from closed units → Fit stay.info.max_sdu units
    → hands stay.info.max_sdu stay.bis None (toks stay heard from [] whole units from n) ≡ flat_map (entry_of stay heard closed) units
unfolding Shown
shown_none stay heard closed from n whole units shown order fit = grind (arith, none-some)

-- units that begin behind a number are in order from the next one on
later_order : (from closed : ℕ) (unit : Sent) (units : List Sent) → from < unit.first → InOrder from closed (unit ∷ units) → InOrder (from + 1) closed (unit ∷ units)
later_order from closed unit units later order = (omega arith, order.1, order.2, order.3)

-- no segments here go on
pub same_none : (stay : Stay) (heard : ℕ → Bool) (from from' : ℕ) (whole whole' : Bool) (units : List Sent) (start n : ℕ)
    → toks stay heard from [] whole units start n ≡ toks stay heard from' [] whole' units start n
same_none stay heard from from' whole whole' units start n = toks_same stay heard from from' [] [] whole whole' units units start n (λ number least. refl)

-- behind its only number a unit has no segments
same_single : (stay : Stay) (heard : ℕ → Bool) (from : ℕ) (whole : Bool) (unit : Sent) (units : List Sent) (octets : List ℕ) (n : ℕ) → unit.segments ≡ octets ∷ []
    → unit.first ≡ from → toks stay heard (from + 1) [] whole (unit ∷ units) (from + 1) n ≡ toks stay heard (from + 1) [] whole units (from + 1) n
same_single stay heard from whole unit units octets n is here = grind (arith, toks_same, carried_later)

-- behind its first number a unit goes on
same_goes_on : (stay : Stay) (heard : ℕ → Bool) (from : ℕ) (whole : Bool) (unit : Sent) (units : List Sent) (octets : List ℕ) (segments : List (List ℕ)) (n : ℕ)
    → unit.segments ≡ octets ∷ segments → unit.first ≡ from
    → toks stay heard (from + 1) [] whole (unit ∷ units) (from + 1) n ≡ toks stay heard (from + 1) segments unit.whole units (from + 1) n
same_goes_on stay heard from whole unit units octets segments n is here = grind (arith, toks_same, carried_later)

-- the segments that a unit has in the PDU of its start
starts_here : (stay : Stay) (unit : Sent) (units : List Sent) (number : ℕ) (octets : List ℕ) (segments : List (List ℕ)) → unit.segments ≡ octets ∷ segments → unit.first ≡ number
    → map (token_of stay (number / stay.info.bn)) (parts_at (unit ∷ units) number)
    ≡ starts (time_of stay (number / stay.info.bn) unit.offset) (unit.whole && is_last segments) octets ∷ map (token_of stay (number / stay.info.bn)) (parts_at units number)
starts_here stay unit units number octets segments is here = cc (carried_here number (Some unit.offset) octets segments unit.whole)

pub run_inj : (r run : Run) → Some run ≡ Some r → run ≡ r
run_inj r run same = cc

-- a start that fits and goes on
hands_start : (max_sdu bis time : ℕ) (octets : List ℕ) (tokens : List Token) → length octets ≤ max_sdu
    → hands max_sdu bis None (starts time false octets ∷ tokens) ≡ hands max_sdu bis (Some (record { time = time; octets = octets })) tokens
hands_start max_sdu bis time octets tokens fits = cc ((joined_fits max_sdu bis time octets fits).1, (joined_fits max_sdu bis time octets fits).3)

whole_start : (max_sdu bis time : ℕ) (octets : List ℕ) (tokens : List Token) → length octets ≤ max_sdu
    → hands max_sdu bis None (starts time true octets ∷ tokens) ≡ valid bis time octets ∷ hands max_sdu bis None tokens
whole_start max_sdu bis time octets tokens fits = cc ((joined_fits max_sdu bis time octets fits).0, (joined_fits max_sdu bis time octets fits).2)

-- a unit in one PDU
single_unit : (stay : Stay) (heard : ℕ → Bool) (closed from n : ℕ) (whole : Bool) (unit : Sent) (units : List Sent) (octets : List ℕ)
    → length octets ≤ stay.info.max_sdu → from + suc n ≡ closed → (unit.whole ≡ false → units ≡ []) → (unit.whole ≡ false → closed ≤ from + 1)
    → hands stay.info.max_sdu stay.bis None
    (map (token_of stay (from / stay.info.bn)) (parts_at units from) ++ toks stay heard (from + 1) [] whole units (from + 1) n)
    ≡ flat_map (entry_of stay heard closed) units
    → hands stay.info.max_sdu stay.bis None (starts (time_of stay (from / stay.info.bn) unit.offset) (unit.whole && true) octets
    ∷ (map (token_of stay (from / stay.info.bn)) (parts_at units from) ++ toks stay heard (from + 1) [] whole units (from + 1) n))
    ≡ cond unit.whole (valid stay.bis (time_of stay (from / stay.info.bn) unit.offset) octets ∷ []) [] ++ flat_map (entry_of stay heard closed) units
single_unit stay heard closed from n whole unit units octets fits all last last_closed rest = elim (cases_Bool unit.whole) [
  | inl is ↦ grind (arith, hands, starts, time_of, map, token_of, parts_at, toks, and_from, whole_start, valid, flat_map, entry_of, cond-true)
  | inr part ↦
      (let count : n ≡ 0 = (omega arith) in
      ap (λ flag. hands stay.info.max_sdu stay.bis None (starts (time_of stay (from / stay.info.bn) unit.offset) flag octets
      ∷ (map (token_of stay (from / stay.info.bn)) (parts_at units from) ++ toks stay heard (from + 1) [] whole units (from + 1) n)))
      (and_left unit.whole true part) ∙ hands_start stay.info.max_sdu stay.bis (time_of stay (from / stay.info.bn) unit.offset) octets
      (map (token_of stay (from / stay.info.bn)) (parts_at units from) ++ toks stay heard (from + 1) [] whole units (from + 1) n) fits
      ∙ ap (λ us. hands stay.info.max_sdu stay.bis (Some (record { time = time_of stay (from / stay.info.bn) unit.offset; octets = octets }))
      (map (token_of stay (from / stay.info.bn)) (parts_at us from) ++ toks stay heard (from + 1) [] whole us (from + 1) n)) (last part)
      ∙ ap (λ k. hands stay.info.max_sdu stay.bis (Some (record { time = time_of stay (from / stay.info.bn) unit.offset; octets = octets }))
      (toks stay heard (from + 1) [] whole [] (from + 1) k)) count
      ∙ ap (hands stay.info.max_sdu stay.bis (Some (record { time = time_of stay (from / stay.info.bn) unit.offset; octets = octets })))
      (toks_none stay heard (from + 1) [] whole [] (from + 1)) ∙ ap (flat_map (entry_of stay heard closed)) (sym (last part))
      ∙ ap (λ xs. xs ++ flat_map (entry_of stay heard closed) units)
      (sym (cond-false unit.whole (valid stay.bis (time_of stay (from / stay.info.bn) unit.offset) octets ∷ []) [] part)))
]

no_list : (octets : List ℕ) (segments : List (List ℕ)) → octets ∷ segments ≡ [] → ⊥
no_list octets segments none = cc

-- a unit that goes on
pub goes_shown : (stay : Stay) (heard : ℕ → Bool) (closed from n : ℕ) (whole : Bool) (run : Option Run) (units : List Sent) (next : List ℕ) (segments : List (List ℕ))
    → Shown stay heard closed from n → InOrder (from + length (next ∷ segments) - 1) closed units
    → (whole ≡ false → (units ≡ []) × (closed ≤ from + length (next ∷ segments)))
    → ((r : Run) → run ≡ Some r → length (r.octets ++ octets_in (next ∷ segments)) ≤ stay.info.max_sdu) → Fit stay.info.max_sdu units
    → hands stay.info.max_sdu stay.bis run (toks stay heard from (next ∷ segments) whole units from n)
    ≡ scan_run heard closed stay.bis whole run from (next ∷ segments) ++ flat_map (entry_of stay heard closed) units
unfolding Shown
goes_shown stay heard closed from n whole run units next segments shown order last fits fit = grind (arith, no_list)

-- a unit that begins in a PDU that is heard, by its segments
begun_unit : (stay : Stay) (heard : ℕ → Bool) (closed from n : ℕ) (whole : Bool) → Shown stay heard closed (from + 1) n → heard from ≡ true → from + suc n ≡ closed
    → (unit : Sent) (units : List Sent) → InOrder from closed (unit ∷ units) → Fit stay.info.max_sdu (unit ∷ units) → unit.first ≡ from
    → (InOrder from closed units → hands stay.info.max_sdu stay.bis None
    (map (token_of stay (from / stay.info.bn)) (parts_at units from) ++ toks stay heard (from + 1) [] whole units (from + 1) n)
    ≡ flat_map (entry_of stay heard closed) units) → (segments : List (List ℕ)) → unit.segments ≡ segments
    → hands stay.info.max_sdu stay.bis None
    (map (token_of stay (from / stay.info.bn)) (parts_at (unit ∷ units) from) ++ toks stay heard (from + 1) [] whole (unit ∷ units) (from + 1) n)
    ≡ flat_map (entry_of stay heard closed) (unit ∷ units)
begun_unit stay heard closed from n whole shown here all unit units order fit at others [] is = grind (arith, length)
begun_unit stay heard closed from n whole shown here all unit units order fit at others (octets ∷ []) is =
    let unit_octets : octets_in unit.segments ≡ octets = ap octets_in is ∙ append-nil octets in
    let fits : length octets ≤ stay.info.max_sdu = subst (λ xs. length xs ≤ stay.info.max_sdu) unit_octets fit.0 in
    let behind_is : behind unit ≡ from + 1 = omega (arith, at, ap length is) in
    let entry : entry_of stay heard closed unit ≡ cond unit.whole (valid stay.bis (time_of stay (from / stay.info.bn) unit.offset) octets ∷ []) [] = grind (arith, entry_heard, scan_end, time_of, octets_in, cond, valid) in
    ap (λ tokens. hands stay.info.max_sdu stay.bis None (tokens ++ toks stay heard (from + 1) [] whole (unit ∷ units) (from + 1) n))
    (starts_here stay unit units from octets [] is at)
    ∙ ap (λ tokens. hands stay.info.max_sdu stay.bis None (starts (time_of stay (from / stay.info.bn) unit.offset) (unit.whole && true) octets
    ∷ (map (token_of stay (from / stay.info.bn)) (parts_at units from) ++ tokens)))
    (same_single stay heard from whole unit units octets n is at) ∙ single_unit stay heard closed from n whole unit units octets fits all
    (λ part. (order.2 part).0) (λ part. subst (λ end. closed ≤ end) behind_is (order.2 part).1)
    (others (subst (λ first. InOrder first closed units) (omega (arith, behind_is)) order.3))
    ∙ ap (λ xs. xs ++ flat_map (entry_of stay heard closed) units) (sym entry)
begun_unit stay heard closed from n whole shown here all unit units order fit at others (octets ∷ next ∷ segments) is =
    let unit_octets : octets_in unit.segments ≡ octets ++ octets_in (next ∷ segments) = ap octets_in is in
    let room : length (octets ++ octets_in (next ∷ segments)) ≤ stay.info.max_sdu = subst (λ xs. length xs ≤ stay.info.max_sdu) unit_octets fit.0 in
    let fits : length octets ≤ stay.info.max_sdu = omega (arith, length-append octets (octets_in (next ∷ segments))) in
    let behind_is : behind unit ≡ from + 1 + length (next ∷ segments) = omega (arith, at, ap length is) in
    let entry : entry_of stay heard closed unit
    ≡ scan heard closed stay.bis (time_of stay (from / stay.info.bn) unit.offset) unit.whole (octets ++ octets_in (next ∷ segments)) (from + 1) (next ∷ segments) = grind (arith, entry_heard stay heard closed unit octets (next ∷ segments) is (ap heard at ∙ here) (omega (arith, at))) in
    ap (λ tokens. hands stay.info.max_sdu stay.bis None (tokens ++ toks stay heard (from + 1) [] whole (unit ∷ units) (from + 1) n))
    (starts_here stay unit units from octets (next ∷ segments) is at)
    ∙ ap (λ flag. hands stay.info.max_sdu stay.bis None (starts (time_of stay (from / stay.info.bn) unit.offset) flag octets
    ∷ (map (token_of stay (from / stay.info.bn)) (parts_at units from) ++ toks stay heard (from + 1) [] whole (unit ∷ units) (from + 1) n)))
    (and_right unit.whole false refl)
    ∙ ap (λ parts. hands stay.info.max_sdu stay.bis None (starts (time_of stay (from / stay.info.bn) unit.offset) false octets
    ∷ (map (token_of stay (from / stay.info.bn)) parts ++ toks stay heard (from + 1) [] whole (unit ∷ units) (from + 1) n)))
    (none_here (behind unit - 1) closed from units order.3 (omega (arith, behind_is)))
    ∙ ap (λ tokens. hands stay.info.max_sdu stay.bis None (starts (time_of stay (from / stay.info.bn) unit.offset) false octets ∷ tokens))
    (same_goes_on stay heard from whole unit units octets (next ∷ segments) n is at)
    ∙ hands_start stay.info.max_sdu stay.bis (time_of stay (from / stay.info.bn) unit.offset) octets
    (toks stay heard (from + 1) (next ∷ segments) unit.whole units (from + 1) n) fits
    ∙ goes_shown stay heard closed (from + 1) n unit.whole (Some (record { time = time_of stay (from / stay.info.bn) unit.offset; octets = octets })) units next segments shown
    (subst (λ first. InOrder first closed units) (omega (arith, behind_is)) order.3)
    (λ part. ((order.2 part).0, subst (λ end. closed ≤ end) behind_is (order.2 part).1))
    (grind (arith, length, octets_in, run_inj, time_of)) fit.1 ∙ ap (λ xs. xs ++ flat_map (entry_of stay heard closed) units) (sym entry)

pub begun_heard : (stay : Stay) (heard : ℕ → Bool) (closed from n : ℕ) (whole : Bool) → Shown stay heard closed (from + 1) n → heard from ≡ true → from + suc n ≡ closed
    → (units : List Sent) → InOrder from closed units → Fit stay.info.max_sdu units → hands stay.info.max_sdu stay.bis None
    (map (token_of stay (from / stay.info.bn)) (parts_at units from) ++ toks stay heard (from + 1) [] whole units (from + 1) n)
    ≡ flat_map (entry_of stay heard closed) units
begun_heard stay heard closed from n whole shown here all [] order fit = shown_none stay heard closed (from + 1) n whole [] shown tt tt
begun_heard stay heard closed from n whole shown here all (unit ∷ units) order fit = elim (cases_order from unit.first) [
  | inl same ↦ begun_unit stay heard closed from n whole shown here all unit units order fit (sym same)
      (λ others. begun_heard stay heard closed from n whole shown here all units others fit.1) unit.segments refl
  | inr (inl later) ↦
      ap (λ parts. hands stay.info.max_sdu stay.bis None
      (map (token_of stay (from / stay.info.bn)) parts ++ toks stay heard (from + 1) [] whole (unit ∷ units) (from + 1) n))
      (none_here (from + 1) closed from (unit ∷ units) (later_order from closed unit units later order) (omega arith))
      ∙ shown_none stay heard closed (from + 1) n whole (unit ∷ units) shown (later_order from closed unit units later order) fit
  | inr (inr before) ↦ (let least : from ≤ unit.first = order.0 in absurd (omega arith))
]

-- the units that begin in a PDU that isn't heard, and those behind
missed_unit : (stay : Stay) (heard : ℕ → Bool) (closed from n : ℕ) (whole : Bool) → Shown stay heard closed (from + 1) n
    → heard from ≡ false → (unit : Sent) (units : List Sent) → InOrder from closed (unit ∷ units) → Fit stay.info.max_sdu (unit ∷ units)
    → unit.first ≡ from
    → (InOrder from closed units → hands stay.info.max_sdu stay.bis None (toks stay heard (from + 1) [] whole units (from + 1) n) ≡ flat_map (entry_of stay heard closed) units)
    → (segments : List (List ℕ)) → unit.segments ≡ segments
    → hands stay.info.max_sdu stay.bis None (toks stay heard (from + 1) [] whole (unit ∷ units) (from + 1) n) ≡ flat_map (entry_of stay heard closed) (unit ∷ units)
missed_unit stay heard closed from n whole shown gap unit units order fit at others [] is = grind arith
missed_unit stay heard closed from n whole shown gap unit units order fit at others (octets ∷ []) is =
    let behind_is : behind unit ≡ from + 1 = omega (arith, at, ap length is) in
    ap (hands stay.info.max_sdu stay.bis None) (same_single stay heard from whole unit units octets n is at)
    ∙ others (subst (λ first. InOrder first closed units) (omega (arith, behind_is)) order.3)
    ∙ ap (λ xs. xs ++ flat_map (entry_of stay heard closed) units) (sym (entry_missed stay heard closed unit (ap heard at ∙ gap)))
missed_unit stay heard closed from n whole shown gap unit units order fit at others (octets ∷ next ∷ segments) is =
    let behind_is : behind unit ≡ from + 1 + length (next ∷ segments) = omega (arith, at, ap length is) in
    ap (hands stay.info.max_sdu stay.bis None) (same_goes_on stay heard from whole unit units octets (next ∷ segments) n is at)
    ∙ goes_shown stay heard closed (from + 1) n unit.whole None units next segments shown
    (subst (λ first. InOrder first closed units) (omega (arith, behind_is)) order.3)
    (λ part. ((order.2 part).0, subst (λ end. closed ≤ end) behind_is (order.2 part).1)) (λ r same. absurd (none-some r same)) fit.1
    ∙ ap (λ xs. xs ++ flat_map (entry_of stay heard closed) units) (sym (entry_missed stay heard closed unit (ap heard at ∙ gap)))

pub begun_missed : (stay : Stay) (heard : ℕ → Bool) (closed from n : ℕ) (whole : Bool) → Shown stay heard closed (from + 1) n → heard from ≡ false
    → (units : List Sent) → InOrder from closed units → Fit stay.info.max_sdu units
    → hands stay.info.max_sdu stay.bis None (toks stay heard (from + 1) [] whole units (from + 1) n) ≡ flat_map (entry_of stay heard closed) units
begun_missed stay heard closed from n whole shown gap [] order fit = shown_none stay heard closed (from + 1) n whole [] shown tt tt
begun_missed stay heard closed from n whole shown gap (unit ∷ units) order fit = elim (cases_order from unit.first) [
  | inl same ↦ missed_unit stay heard closed from n whole shown gap unit units order fit (sym same)
      (λ others. begun_missed stay heard closed from n whole shown gap units others fit.1) unit.segments refl
  | inr (inl later) ↦ shown_none stay heard closed (from + 1) n whole (unit ∷ units) shown (later_order from closed unit units later order) fit
  | inr (inr before) ↦ (let least : from ≤ unit.first = order.0 in absurd (omega arith))
]

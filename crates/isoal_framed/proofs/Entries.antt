-- The segments of units at a number, and its tokens; and the entry of a unit: what becomes of it from a number on.
use Rattle.isoal_framed.proofs.Prelude.{ℕ, ◌≡◌, ◌+◌, ◌-◌, ◌/◌, ◌<◌, ◌≤◌, inl, inr, true, false, Bool, ◌&&◌, ltb, cond, List, [], ◌∷◌, ◌++◌, length, Option, Some, None, refl, sym, ap, ◌∙◌, arith, flat_map, cases_Bool, cases_order, cond-true, cond-false, lt-ltb, le-ltb, and_right, Handed, valid, lost, Stay, time_of, Run, Sent, octets_in, InOrder, first_missing, entry_by, entry_of, zero, suc, eqb, map, range_with_len, eq-eqb, ne_eqb, Token, missing, token_of, is_last, part_with, carried, parts_at}
use Rattle.isoal_framed.specs.Struck.{behind}
use Rattle.isoal_framed.proofs.Closed.{flat_same}

-- the segments that a number carries
pub carried_here : (from : ℕ) (offset : Option ℕ) (octets : List ℕ) (segments : List (List ℕ)) (whole : Bool)
    → carried from offset (octets ∷ segments) whole from ≡ part_with offset (whole && is_last segments) octets ∷ []
carried_here from offset octets segments whole = search (cond-true, eq-eqb)

pub carried_later : (from number : ℕ) (offset : Option ℕ) (octets : List ℕ) (segments : List (List ℕ)) (whole : Bool) → from < number
    → carried from offset (octets ∷ segments) whole number ≡ carried (from + 1) None segments whole number
carried_later from number offset octets segments whole after = grind (arith, cond-false, ne_eqb)

pub carried_before : (from number : ℕ) (offset : Option ℕ) (segments : List (List ℕ)) (whole : Bool) → number < from → carried from offset segments whole number ≡ []
carried_before from number offset [] whole before = refl
carried_before from number offset (octets ∷ segments) whole before = cc (cond-false (eqb from number) (part_with offset (whole && is_last segments) octets ∷ []) (carried (from + 1) None segments whole number) (ne_eqb from number (λ same. omega arith)), carried_before (from + 1) number None segments whole (omega arith))

-- units that begin later have no segment here
pub none_here : (from laid number : ℕ) (units : List Sent) → InOrder from laid units → number < from → parts_at units number ≡ []
none_here from laid number [] order before = refl
none_here from laid number (unit ∷ units) order before = grind (arith, order.1, order.0, carried_before unit.first number (Some unit.offset) unit.segments unit.whole (omega arith), none_here (behind unit - 1) laid number units order.3 (omega arith))

-- the tokens of a number: of a unit that goes on there, and of units behind it
unfoldable pub tok : Stay → (ℕ → Bool) → ℕ → List (List ℕ) → Bool → List Sent → ℕ → List Token
tok stay heard from segments whole units number =
    cond (heard number) (map (token_of stay (number / stay.info.bn)) (carried from None segments whole number ++ parts_at units number)) (missing ∷ [])

unfoldable pub toks : Stay → (ℕ → Bool) → ℕ → List (List ℕ) → Bool → List Sent → ℕ → ℕ → List Token
toks stay heard from segments whole units start n = flat_map (tok stay heard from segments whole units) (range_with_len start n)

-- other units with the same segments from here on
pub toks_same : (stay : Stay) (heard : ℕ → Bool) (from from' : ℕ) (segments segments' : List (List ℕ)) (whole whole' : Bool) (units units' : List Sent) (start n : ℕ)
    → ((number : ℕ) → start ≤ number → carried from None segments whole number ++ parts_at units number ≡ carried from' None segments' whole' number ++ parts_at units' number)
    → toks stay heard from segments whole units start n ≡ toks stay heard from' segments' whole' units' start n
unfolding toks tok
toks_same stay heard from from' segments segments' whole whole' units units' start n same = grind (arith, flat_same)

-- the tokens of a number that is heard, and of one that isn't
pub tok_heard : (stay : Stay) (heard : ℕ → Bool) (from : ℕ) (segments : List (List ℕ)) (whole : Bool) (units : List Sent) (number : ℕ) → heard number ≡ true
    → tok stay heard from segments whole units number
    ≡ map (token_of stay (number / stay.info.bn)) (carried from None segments whole number ++ parts_at units number)
unfolding tok
tok_heard stay heard from segments whole units number is = search cond-true

pub tok_missing : (stay : Stay) (heard : ℕ → Bool) (from : ℕ) (segments : List (List ℕ)) (whole : Bool) (units : List Sent) (number : ℕ) → heard number ≡ false
    → tok stay heard from segments whole units number ≡ missing ∷ []
unfolding tok
tok_missing stay heard from segments whole units number is = search cond-false

pub toks_first : (stay : Stay) (heard : ℕ → Bool) (from : ℕ) (segments : List (List ℕ)) (whole : Bool) (units : List Sent) (start n : ℕ)
    → toks stay heard from segments whole units start (suc n) ≡ tok stay heard from segments whole units start ++ toks stay heard from segments whole units (start + 1) n
unfolding toks
toks_first stay heard from segments whole units start n = refl

pub toks_none : (stay : Stay) (heard : ℕ → Bool) (from : ℕ) (segments : List (List ℕ)) (whole : Bool) (units : List Sent) (start : ℕ)
    → toks stay heard from segments whole units start zero ≡ []
unfolding toks
toks_none stay heard from segments whole units start = refl

-- ---- the entry of a unit

-- a unit that goes on: what becomes of it from this number on
unfoldable pub scan : (ℕ → Bool) → ℕ → ℕ → ℕ → Bool → List ℕ → ℕ → List (List ℕ) → List Handed
scan heard closed bis time whole octets number [] = cond whole (valid bis time octets ∷ []) []
scan heard closed bis time whole octets number (part ∷ segments) =
    cond (ltb number closed) (cond (heard number) (scan heard closed bis time whole octets (number + 1) segments) (lost bis time ∷ [])) []

pub scan_heard : (heard : ℕ → Bool) (closed bis time : ℕ) (whole : Bool) (octets : List ℕ) (number : ℕ) (part : List ℕ) (segments : List (List ℕ))
    → number < closed → heard number ≡ true
    → scan heard closed bis time whole octets number (part ∷ segments) ≡ scan heard closed bis time whole octets (number + 1) segments
unfolding scan
scan_heard heard closed bis time whole octets number part segments below is = search (cond-true, lt-ltb)

pub scan_missing : (heard : ℕ → Bool) (closed bis time : ℕ) (whole : Bool) (octets : List ℕ) (number : ℕ) (part : List ℕ) (segments : List (List ℕ))
    → number < closed → heard number ≡ false → scan heard closed bis time whole octets number (part ∷ segments) ≡ lost bis time ∷ []
unfolding scan
scan_missing heard closed bis time whole octets number part segments below is = search (cond-true, lt-ltb, cond-false)

pub scan_open : (heard : ℕ → Bool) (closed bis time : ℕ) (whole : Bool) (octets : List ℕ) (number : ℕ) (part : List ℕ) (segments : List (List ℕ))
    → closed ≤ number → scan heard closed bis time whole octets number (part ∷ segments) ≡ []
unfolding scan
scan_open heard closed bis time whole octets number part segments past = search (cond-false, le-ltb)

and_true : (a b : Bool) → b ≡ true → (a && b) ≡ a
and_true a b is = grind arith

none_closed : (stay : Stay) (closed : ℕ) (unit : Sent) → closed ≤ behind unit - 1 → entry_by stay closed unit None ≡ []
none_closed stay closed unit past = cc (and_right unit.whole (ltb (behind unit - 1) closed) (le-ltb (behind unit - 1) closed past))

some_open : (stay : Stay) (closed : ℕ) (unit : Sent) (number : ℕ) → closed ≤ number → entry_by stay closed unit (Some number) ≡ []
some_open stay closed unit number past = search (cond-false, le-ltb)

-- the entry of a unit of which no number from here on is closed
open_entry : (stay : Stay) (heard : ℕ → Bool) (closed : ℕ) (unit : Sent) (number : ℕ) (part : List ℕ) (segments : List (List ℕ))
    → number + length (part ∷ segments) ≡ behind unit → closed ≤ number
    → entry_by stay closed unit (first_missing heard number (part ∷ segments)) ≡ []
open_entry stay heard closed unit number part [] all past = grind (arith, cases_Bool, cond-false, some_open, cond-true, none_closed)
open_entry stay heard closed unit number part (next ∷ segments) all past = elim (cases_Bool (heard number)) [
  | inr gap ↦ cc (cond-false (heard number) (first_missing heard (number + 1) (next ∷ segments)) (Some number) gap, some_open stay closed unit number past)
  | inl is ↦ ap (entry_by stay closed unit) (cond-true (heard number) (first_missing heard (number + 1) (next ∷ segments)) (Some number) is)
      ∙ open_entry stay heard closed unit (number + 1) next segments (omega (arith, all)) (omega arith)
]

-- behind a unit's numbers that are heard: the entry is what becomes of the unit
scan_entry : (stay : Stay) (heard : ℕ → Bool) (closed : ℕ) (unit : Sent) (number : ℕ) (segments : List (List ℕ))
    → number + length segments ≡ behind unit → 1 ≤ number → number ≤ closed
    → entry_by stay closed unit (first_missing heard number segments)
    ≡ scan heard closed stay.bis (time_of stay (unit.first / stay.info.bn) unit.offset) unit.whole (octets_in unit.segments) number segments
unfolding scan
scan_entry stay heard closed unit number [] all some within = grind (arith, and_true, lt-ltb)
scan_entry stay heard closed unit number (part ∷ segments) all some within = elim (cases_order number closed) [
  | inl same ↦ open_entry stay heard closed unit number part segments all (omega arith)
      ∙ sym (scan_open heard closed stay.bis (time_of stay (unit.first / stay.info.bn) unit.offset) unit.whole (octets_in unit.segments) number part segments (omega arith))
  | inr (inr past) ↦ absurd (omega arith)
  | inr (inl below) ↦ elim (cases_Bool (heard number)) [
    | inr gap ↦ search (cond-false, cond-true, lt-ltb, scan_missing)
    | inl is ↦
        ap (entry_by stay closed unit) (cond-true (heard number) (first_missing heard (number + 1) segments) (Some number) is)
        ∙ scan_entry stay heard closed unit (number + 1) segments (omega (arith, all)) (omega arith) (omega arith)
        ∙ sym (scan_heard heard closed stay.bis (time_of stay (unit.first / stay.info.bn) unit.offset) unit.whole (octets_in unit.segments) number part segments below is)
  ]
]

entry_from : (stay : Stay) (heard : ℕ → Bool) (closed : ℕ) (unit : Sent) (segments : List (List ℕ)) → unit.segments ≡ segments → 1 ≤ length segments
    → closed ≤ unit.first → entry_by stay closed unit (first_missing heard unit.first unit.segments) ≡ []
entry_from stay heard closed unit [] is some past = absurd (omega arith)
entry_from stay heard closed unit (part ∷ segments) is some past = cc (open_entry stay heard closed unit unit.first part segments (ap (λ xs. unit.first + length xs) (sym is)) past)

no_entry : (stay : Stay) (heard : ℕ → Bool) (closed : ℕ) (unit : Sent) → 1 ≤ length unit.segments → closed ≤ unit.first → entry_of stay heard closed unit ≡ []
no_entry stay heard closed unit some past = grind (arith, cases_Bool, cond-false, cond-true, entry_from)

-- units of which no number is closed have no entry
pub no_entries : (stay : Stay) (heard : ℕ → Bool) (closed from laid : ℕ) (units : List Sent) → InOrder from laid units → closed ≤ from
    → flat_map (entry_of stay heard closed) units ≡ []
no_entries stay heard closed from laid [] order past = refl
no_entries stay heard closed from laid (unit ∷ units) order past = grind (arith, order.0, order.1, no_entry stay heard closed unit order.1 (omega arith), no_entries stay heard closed (behind unit - 1) laid units order.3 (omega arith))

-- what becomes of a run whose unit goes on with these segments
abbrev pub scan_run : (ℕ → Bool) → ℕ → ℕ → Bool → Option Run → ℕ → List (List ℕ) → List Handed
scan_run heard closed bis whole None number segments = []
scan_run heard closed bis whole (Some run) number segments =
    scan heard closed bis run.time whole (run.octets ++ octets_in segments) number segments

-- the entry of a unit whose start is heard
pub entry_heard : (stay : Stay) (heard : ℕ → Bool) (closed : ℕ) (unit : Sent) (octets : List ℕ) (segments : List (List ℕ)) → unit.segments ≡ octets ∷ segments
    → heard unit.first ≡ true → unit.first < closed → entry_of stay heard closed unit
    ≡ scan heard closed stay.bis (time_of stay (unit.first / stay.info.bn) unit.offset) unit.whole (octets_in unit.segments) (unit.first + 1) segments
entry_heard stay heard closed unit octets segments is here below = grind (arith, cond-true, scan_entry)

pub entry_missed : (stay : Stay) (heard : ℕ → Bool) (closed : ℕ) (unit : Sent) → heard unit.first ≡ false → entry_of stay heard closed unit ≡ []
entry_missed stay heard closed unit gap = cond-false (heard unit.first) (entry_by stay closed unit (first_missing heard unit.first unit.segments)) [] gap

pub scan_end : (heard : ℕ → Bool) (closed bis time : ℕ) (whole : Bool) (octets : List ℕ) (number : ℕ)
    → scan heard closed bis time whole octets number [] ≡ cond whole (valid bis time octets ∷ []) []
unfolding scan
scan_end heard closed bis time whole octets number = refl

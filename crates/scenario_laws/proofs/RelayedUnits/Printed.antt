-- Without relays a close prints the units of its sinks in order, and nothing else.
use Rattle.scenario_laws.proofs.Known.Sources.Steps.{ℕ, zero, suc, ◌≡◌, ◌<◌, ◌≤◌, ◌+◌, ◌==◌, ◌∙◌, Bool, true, false, cond, List, [], ◌∷◌, ◌++◌, map, Option, None, Some, refl, ap, arith, append_assoc, flat_map, range_with_len, eq-eqb, eqb-true, ne_eqb, append-nil, flat_map-append, Call, handed_at, Step, handed_line, Handed, Account, SinkUnit, box_of, closing_at, closing_both, closing_by, closing_in, handed_up, answered_by, closes_first, handed_of, offers_at, close_lines, first_lines, output_of, sums_of, unit_lines, is_of, sink_calls, source_of, open_event, Airs, chosen_of, steps_of_source, PrintsUnits, has_relay, sym, subst, inl, inr, list_any, and_right, cases_Bool, false≢true, all_answered, happened, offered_to, offers_before, with_relayed_units, RelayLaw, accepted_on, AreSaidLegally, gives_on, line_refusal, had_relay, relays_to, closing, sink_numbers, answered, passed, no_offers, had_happened, none_offered, all_pass, none_taken, passed_append, step_takes, gives_none, is_free, line_passes, has_had}
use Rattle.scenario_laws.proofs.RelayedUnits.Offered.{flat_one, handed_append, all_offered, not_handed}

-- ---- lists

flat_flat : {A B C : Type 0} (g : B → List C) (f : A → List B) (xs : List A)
    → flat_map g (flat_map f xs) ≡ flat_map (λ x. flat_map g (f x)) xs
flat_flat g f [] = refl
flat_flat g f (x ∷ xs) = flat_map-append g (f x) (flat_map f xs) ∙ ap (λ l. flat_map g (f x) ++ l) (flat_flat g f xs)

pub flat_same : {A : Type 0} (f g : ℕ → List A) (xs : List ℕ) → ((n : ℕ) → f n ≡ g n) → flat_map f xs ≡ flat_map g xs
flat_same f g [] same = refl
flat_same f g (x ∷ xs) same = ap (λ prefix. prefix ++ flat_map f xs) (same x) ∙ ap (λ rest. g x ++ rest) (flat_same f g xs same)

pub flat_within : {B : Type 0} (f g : ℕ → List B) (start count : ℕ) → ((m : ℕ) → start ≤ m → m < start + count → f m ≡ g m)
    → flat_map f (range_with_len start count) ≡ flat_map g (range_with_len start count)
flat_within f g start zero same = refl
flat_within f g start (suc count) same =
    ap (λ l. l ++ flat_map f (range_with_len (start + 1) count)) (same start (omega arith) (omega arith))
    ∙ ap (λ l. g start ++ l) (flat_within f g (start + 1) count (λ m least below. same m (omega (arith, least)) (omega (arith, below))))

-- ---- the units of one sink

pub own_handed : (n box : ℕ) (units : List Handed)
    → handed_of 0 n (map (λ unit. record { source = 0; sink = n; box = box; unit = unit }) units) ≡ units
own_handed n box [] = refl
own_handed n box (unit ∷ units) = rw (eq-eqb n n refl) (ap (λ l. unit ∷ l) (own_handed n box units))

pub other_in : (its : Bool) (event n m : ℕ) (calls : List Call) (box : Option ℕ) → (m == n) ≡ false
    → handed_of 0 n (cond its (closing_in 0 event m calls box) []) ≡ []
other_in true event n m calls None other = refl
other_in true event n m calls (Some box) other = not_handed 0 n 0 m box (handed_at calls event) other
other_in false event n m calls box other = refl

pub lines_map : (n box : ℕ) (units : List Handed)
    → flat_map (handed_line n) units ≡ unit_lines (map (λ unit. record { source = 0; sink = n; box = box; unit = unit }) units)
lines_map n box [] = refl
lines_map n box (unit ∷ units) = ap (λ l. handed_line n unit ++ l) (lines_map n box units)

lines_in : (its : Bool) (event n : ℕ) (calls : List Call) (box : Option ℕ)
    → flat_map (handed_line n) (handed_of 0 n (cond its (closing_in 0 event n calls box) [])) ≡ unit_lines (cond its (closing_in 0 event n calls box) [])
lines_in true event n calls (Some box) = cc (own_handed n box (handed_at calls event), lines_map n box (handed_at calls event))
lines_in its event n calls box = search (own_handed, handed_at, lines_map)

-- ---- a close of source 0

abbrev closes : Airs → List Step → ℕ → ℕ → List SinkUnit
closes airs made event m = closing_by 0 event m (sink_calls airs m made) (source_of m made) (box_of m made)

pub handed_flat : (n : ℕ) (f : ℕ → List SinkUnit) (ms : List ℕ) → handed_of 0 n (flat_map f ms) ≡ flat_map (λ m. handed_of 0 n (f m)) ms
handed_flat n f [] = refl
handed_flat n f (m ∷ ms) = handed_append 0 n (f m) (flat_map f ms) ∙ ap (λ l. handed_of 0 n (f m) ++ l) (handed_flat n f ms)

one_printed : (airs : Airs) (made : List Step) (event n : ℕ) → n < 8
    → flat_map (handed_line n) (handed_of 0 n (flat_map (closes airs made event) (range_with_len 0 8))) ++ [] ≡ unit_lines (closes airs made event n)
one_printed airs made event n below =
    append-nil (flat_map (handed_line n) (handed_of 0 n (flat_map (closes airs made event) (range_with_len 0 8))))
    ∙ ap (flat_map (handed_line n)) (handed_flat n (closes airs made event) (range_with_len 0 8)
    ∙ flat_one (λ m. handed_of 0 n (closes airs made event m)) n 0 8 (omega arith) (omega (arith, below))
    (λ m other. other_in (is_of 0 (source_of m made)) event n m (sink_calls airs m made) (box_of m made) (ne_eqb m n other)))
    ∙ lines_in (is_of 0 (source_of n made)) event n (sink_calls airs n made) (box_of n made)

at_event : (airs : Airs) (made : List Step) (last_open : Option ℕ)
    → first_lines (closing_at airs 0 made last_open) [] ≡ unit_lines (closing_at airs 0 made last_open)
unfolding sink_numbers
at_event airs made None = refl
at_event airs made (Some event) = search (flat_within, one_printed, flat_flat)

-- no relay offers anything
none_answered : (closes : Bool) (airs : Airs) (made : List Step) → has_relay made ≡ false
    → answered airs (cond closes (offers_at airs made) []) made ≡ []
none_answered closes airs made none = grind (arith, no_offers)

pub prints_units : PrintsUnits
prints_units airs made step none =
    cc (none_answered (closes_first made step) airs made none, (at_event airs made (open_event (steps_of_source 0 made))))

closed_if : (hit : Bool) (airs : Airs) (made : List Step) (step : Step) → (chosen_of made == 0) ≡ hit → has_relay made ≡ false
    → cond hit (first_lines (closing airs 0 made) (answered_by airs made step)) (unit_lines (closing airs (chosen_of made) made)) ≡ unit_lines (closing airs (chosen_of made) made)
closed_if true airs made this is none = cc (prints_units airs made this none, eqb-true (chosen_of made) 0 is)
closed_if false airs made this is none = refl

-- a close of the chosen source prints the units of its sinks
pub plain_close : (airs : Airs) (made : List Step) (step : Step) → has_relay made ≡ false
    → close_lines airs made step ≡ unit_lines (closing airs (chosen_of made) made)
plain_close airs made step none = closed_if (chosen_of made == 0) airs made step refl none

-- and `end` those of both sources, and the sums
pub plain_end : (airs : Airs) (starts : List Account) (made : List Step) → has_relay made ≡ false → output_of airs starts made Step.End
    ≡ unit_lines (closing_both airs made) ++ sums_of starts (handed_up airs made ++ closing_both airs made) made
plain_end airs starts made none = search (prints_units, append_assoc, flat_map-append, handed_line)

-- ---- the relay law: by one induction over the steps of lines

-- ---- what passes

-- the stream had a relay before this step
goes_on : (airs : Airs) (boxes to : ℕ) (step : Step) (earlier : List Step) → line_refusal airs boxes (happened airs earlier) step ≡ None
    → had_relay to earlier ≡ true → accepted_on to (happened airs earlier) ≡ passed (offered_to to (all_answered airs earlier))
    → accepted_on to (happened airs (step ∷ earlier)) ≡ passed (offered_to to (all_answered airs (step ∷ earlier)))
goes_on airs boxes to step earlier none had before =
    let made = happened airs earlier in
    let now = answered_by airs made step in
    let unnamed = gives_none airs boxes to made step none (had_happened airs to earlier ∙ had) in
    step_takes to step (with_relayed_units airs made step) (grind (arith, and_right))
    ∙ all_pass airs to (offers_before airs made step) made ∙ ap (λ units. units ++ passed (offered_to to now)) before
    ∙ sym (passed_append to (all_answered airs earlier) now)

-- this step makes its relay
begins : (airs : Airs) (boxes to : ℕ) (step : Step) (earlier : List Step) → line_refusal airs boxes (happened airs earlier) step ≡ None
    → had_relay to earlier ≡ false → relays_to to step ≡ true
    → accepted_on to (happened airs (step ∷ earlier)) ≡ passed (offered_to to (all_answered airs (step ∷ earlier)))
begins airs boxes to (Step.Relay sink bis into) earlier none before its =
    let made = happened airs earlier in
    let free = is_free airs boxes made sink bis into (line_passes airs boxes made (Step.Relay sink bis into) none) in
    let given = subst (λ t. list_any (gives_on t) (steps_of_source 1 (happened airs earlier)) ≡ false) (eqb-true into to its) free.given in
    none_taken to (steps_of_source 1 (happened airs earlier)) given
    ∙ sym (ap passed (ap (offered_to to) (append-nil (all_answered airs earlier)) ∙ none_offered airs to earlier before))
begins airs boxes to this earlier none before its = absurd (false≢true its)

pub passes : (airs : Airs) (boxes to : ℕ) (said : List Step) → AreSaidLegally airs boxes said → had_relay to said ≡ true
    → accepted_on to (happened airs said) ≡ passed (offered_to to (all_answered airs said))
passes airs boxes to [] legal had = absurd (false≢true had)
passes airs boxes to (step ∷ earlier) legal had = elim (cases_Bool (had_relay to earlier)) [
  | inl before ↦ goes_on airs boxes to step earlier legal.1 before (passes airs boxes to earlier legal.0 before)
  | inr before ↦ begins airs boxes to step earlier legal.1 before (grind (arith, false≢true))
]

pub relay_law_holds : (boxes : ℕ) → RelayLaw boxes
relay_law_holds boxes airs said legal n bis to within = search (all_offered, passes, has_had)

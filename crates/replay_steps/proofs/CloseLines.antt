-- What a close of source 0 prints, sink by sink, is what its definition says: the units of each sink, and then those that its relay
-- offered and that source 1 didn't take.
use Rattle.replay_steps.proofs.Prelude.{◌≢◌, append_assoc, ℕ, zero, suc, ◌≡◌, ◌<◌, ◌≤◌, ◌+◌, ◌-◌, ◌==◌, Bool, true, cond, List, [], ◌∷◌, ◌++◌, map, refl, sym, ◌∙◌, ap, ap₂, append-nil, arith, eq-eqb, ne_eqb, Option, None, Some, filter, flat_map, range_with_len, filter-append, Call, handed_at, Handed, airs_of, Step, SinkUnit, closing, closing_at, closing_in, Answered, Offer, after_offer, after_offers, answered, offered_of, offers_at, units_on, dropped_lines, first_lines, unit_lines, Route, relay_of, is_of, open_event, steps_of_source, closing_of, handed_all, Histories, histories_of, answer_lines, lines_at, lines_below, offers_below, offers_of, units_below, flat_within, flat_one, other_in, handed_flat, lines_map, AudioUnit, handed_line, sink_numbers, own_units}
use Rattle.scenario_history.specs.RelayedUnits.{handed_of}
use Rattle.replay_steps.proofs.Between.{range_about}
use Rattle.replay_steps.proofs.Offering.{answered_append}

-- ---- lists

pub flat_nothing : {B : Type 0} (f : ℕ → List B) (start count : ℕ) → ((m : ℕ) → start ≤ m → m < start + count → f m ≡ []) → flat_map f (range_with_len start count) ≡ []
flat_nothing f start zero none = refl
flat_nothing f start (suc count) none =
    ap (λ l. l ++ flat_map f (range_with_len (start + 1) count)) (none start (omega arith) (omega arith))
    ∙ flat_nothing f (start + 1) count (λ m least below. none m (omega (arith, least)) (omega (arith, below)))

-- ---- what one sink hands up, among all

back_units : (n box : ℕ) (units : List Handed)
    → handed_all (map (λ unit. record { source = 0; sink = n; box = box; unit = unit }) units) ≡ units
back_units n box [] = refl
back_units n box (unit ∷ units) = ap (λ l. unit ∷ l) (back_units n box units)

own_in : (its : Bool) (event n : ℕ) (calls : List Call) (box : Option ℕ)
    → handed_of 0 n (cond its (closing_in 0 event n calls box) []) ≡ handed_all (cond its (closing_in 0 event n calls box) [])
own_in true event n calls (Some box) = own_units n box (handed_at calls event) ∙ sym (back_units n box (handed_at calls event))
own_in its event n calls box = search (own_units, handed_at, back_units)

-- of what the first sinks hand up the part of one of them is what it hands up
pub own_handed : (past : Histories) (event n number : ℕ) → n < number → handed_of 0 n (units_below past event number) ≡ handed_all (closing_of n 0 event past)
own_handed past event n number below =
    handed_flat n (λ m. closing_of m 0 event past) (range_with_len 0 number)
    ∙ flat_one (λ m. handed_of 0 n (closing_of m 0 event past)) n 0 number (omega arith) (omega (arith, below))
    (λ m other. other_in (is_of 0 (past.sources m)) event n m (past.received m) (past.boxes m) (ne_eqb m n other))
    ∙ own_in (is_of 0 (past.sources n)) event n (past.received n) (past.boxes n)

-- another sink has no part of it
pub none_handed : (past : Histories) (event n number : ℕ) → number ≤ n → handed_of 0 n (units_below past event number) ≡ []
none_handed past event n number beyond =
    handed_flat n (λ m. closing_of m 0 event past) (range_with_len 0 number)
    ∙ flat_nothing (λ m. handed_of 0 n (closing_of m 0 event past)) 0 number
    (λ m least below. other_in (is_of 0 (past.sources m)) event n m (past.received m) (past.boxes m) (ne_eqb m n (λ same. omega (arith, same, below, beyond))))

own_lines_in : (its : Bool) (event n : ℕ) (calls : List Call) (box : Option ℕ)
    → flat_map (handed_line n) (handed_all (cond its (closing_in 0 event n calls box) [])) ≡ unit_lines (cond its (closing_in 0 event n calls box) [])
own_lines_in true event n calls (Some box) =
    ap (flat_map (handed_line n)) (back_units n box (handed_at calls event)) ∙ lines_map n box (handed_at calls event)
own_lines_in its event n calls box = search (flat_map, back_units, handed_at, lines_map)

pub own_lines : (past : Histories) (event n : ℕ) → flat_map (handed_line n) (handed_all (closing_of n 0 event past)) ≡ unit_lines (closing_of n 0 event past)
own_lines past event n = own_lines_in (is_of 0 (past.sources n)) event n (past.received n) (past.boxes n)

-- ---- what is offered

-- an event of source 0 is closed, or none is open: what its sinks hand up then, what their relays offer, and what is printed
abbrev pub units_closed : Histories → Option ℕ → List SinkUnit
units_closed past None = []
units_closed past (Some event) = units_below past event 8

abbrev pub offers_closed : List Step → Histories → Option ℕ → List Offer
offers_closed steps past None = []
offers_closed steps past (Some event) = offers_below steps past event 8

abbrev pub lines_closed : List Step → Histories → Option ℕ → List ℕ
lines_closed steps past None = []
lines_closed steps past (Some event) = lines_below steps past event 8

units_at : (steps : List Step) (closed : Option ℕ) → closing_at airs_of 0 steps closed ≡ units_closed (histories_of steps) closed
unfolding sink_numbers
units_at steps closed = grind arith

pub units_are : (steps : List Step) (closed : Option ℕ) → closed ≡ open_event (steps_of_source 0 steps) → closing airs_of 0 steps ≡ units_closed (histories_of steps) closed
units_are steps closed is = ap (closing_at airs_of 0 steps) (sym is) ∙ units_at steps closed

none_asked : (n : ℕ) (relay : Option Route) → offered_of n relay [] ≡ []
none_asked n relay = grind arith

offers_in : (steps : List Step) (closed : Option ℕ) → closing airs_of 0 steps ≡ units_closed (histories_of steps) closed
    → offers_at airs_of steps ≡ offers_closed steps (histories_of steps) closed
unfolding sink_numbers
offers_in steps None is = grind (arith, flat_nothing, none_asked)
offers_in steps (Some event) is =
    flat_within (λ n. offered_of n (relay_of n steps) (handed_of 0 n (closing airs_of 0 steps))) (λ n. offers_of steps (histories_of steps) n event) 0 8
    (λ n least below. ap (offered_of n (relay_of n steps)) (ap (handed_of 0 n) is ∙ own_handed (histories_of steps) event n 8 (omega (arith, below))))

pub offers_same : (steps : List Step) (closed : Option ℕ) → closed ≡ open_event (steps_of_source 0 steps)
    → offers_at airs_of steps ≡ offers_closed steps (histories_of steps) closed
offers_same steps closed is = offers_in steps closed (units_are steps closed is)

-- ---- what becomes of it, sink by sink

abbrev pub of_sink : ℕ → Answered → Bool
of_sink n answer = answer.offer.sink == n

abbrev each_offer : ℕ → Route → AudioUnit → Offer
each_offer m route unit = record { sink = m; route = route; unit = unit }

no_answers : (hit : Bool) → (let none : List Answered = [] in none ≡ cond hit none none)
no_answers hit = grind arith

route_answers : (n m : ℕ) (route : Route) (units : List AudioUnit) (steps : List Step)
    → filter (of_sink n) (answered airs_of (map (each_offer m route) units) steps) ≡ cond (m == n) (answered airs_of (map (each_offer m route) units) steps) []
route_answers n m route [] steps = no_answers (m == n)
route_answers n m route (unit ∷ units) steps =
    grind (arith, route_answers n m route units (after_offer airs_of (each_offer m route unit) steps))

sink_answers : (n m : ℕ) (relay : Option Route) (units : List Handed) (steps : List Step)
    → filter (of_sink n) (answered airs_of (offered_of m relay units) steps) ≡ cond (m == n) (answered airs_of (offered_of m relay units) steps) []
sink_answers n m relay units steps = grind (arith, no_answers, route_answers, units_on)

abbrev asks : List Step → Histories → ℕ → ℕ → List Offer
asks steps past event m = offers_of steps past m event

-- other sinks answer for themselves
answers_other : (steps : List Step) (past : Histories) (event n start count : ℕ) (now : List Step)
    → ((m : ℕ) → start ≤ m → m < start + count → m ≢ n)
    → filter (of_sink n) (answered airs_of (flat_map (asks steps past event) (range_with_len start count)) now) ≡ []
answers_other steps past event n start zero now other = refl
answers_other steps past event n start (suc count) now other =
    let here : List Offer = asks steps past event start in
    let rest : List Offer = flat_map (asks steps past event) (range_with_len (start + 1) count) in
    let then : List Step = after_offers airs_of here now in
    let less = answers_other steps past event n (start + 1) count then
    (λ m least below. other m (omega (arith, least)) (omega (arith, below))) in
    let its = sink_answers n start (relay_of start steps) (handed_all (closing_of start 0 event past)) now in
    let apart = ne_eqb start n (other start (omega arith) (omega arith)) in
    let both = filter-append (of_sink n) (answered airs_of here now) (answered airs_of rest then) in
    grind (arith, answered_append here rest now)

-- of what becomes of all that the sinks' relays offer the part of one
pub answers_of : (steps : List Step) (past : Histories) (event n : ℕ) → n < 8
    → filter (of_sink n) (answered airs_of (offers_below steps past event 8) steps)
    ≡ answered airs_of (offers_of steps past n event) (after_offers airs_of (offers_below steps past event n) steps)
answers_of steps past event n below =
    let before : List Offer = offers_below steps past event n in
    let own : List Offer = offers_of steps past n event in
    let later : List Offer = flat_map (asks steps past event) (range_with_len (n + 1) (7 - n)) in
    let then : List Step = after_offers airs_of before steps in
    let one = answers_other steps past event n 0 n steps (λ m least less same. omega (arith, less, same)) in
    let two = sink_answers n n (relay_of n steps) (handed_all (closing_of n 0 event past)) then in
    let three = answers_other steps past event n (n + 1) (7 - n) (after_offers airs_of own then)
    (λ m least less same. omega (arith, least, same)) in
    ap (λ all. filter (of_sink n) (answered airs_of all steps))
    (range_about (asks steps past event) n below ∙ append_assoc before own later) ∙ ap (filter (of_sink n))
    (answered_append before (own ++ later) steps ∙ ap (λ l. answered airs_of before steps ++ l) (answered_append own later then)) ∙ grind (
      arith,
      filter-append (of_sink n) (answered airs_of before steps)
          (answered airs_of own then ++ answered airs_of later (after_offers airs_of own then)),
      filter-append (of_sink n) (answered airs_of own then) (answered airs_of later (after_offers airs_of own then)),
      append-nil (answered airs_of own then),
      eq-eqb n n refl,
    )

-- ---- the lines of a close of source 0

lines_in : (steps : List Step) (closed : Option ℕ) → closing airs_of 0 steps ≡ units_closed (histories_of steps) closed
    → offers_at airs_of steps ≡ offers_closed steps (histories_of steps) closed
    → first_lines (closing airs_of 0 steps) (answered airs_of (offers_at airs_of steps) steps) ≡ lines_closed steps (histories_of steps) closed
unfolding sink_numbers
lines_in steps None is asked = ap₂ (λ units offers. first_lines units (answered airs_of offers steps)) is asked
lines_in steps (Some event) is asked =
    let past : Histories = histories_of steps in
    let answers : List Answered = answered airs_of (offers_at airs_of steps) steps in
    flat_within (λ n. flat_map (handed_line n) (handed_of 0 n (closing airs_of 0 steps)) ++ dropped_lines n answers) (λ n. lines_at steps past n event) 0 8
    (λ n least below. ap₂ (λ one two. one ++ two)
    (ap (flat_map (handed_line n)) (ap (handed_of 0 n) is ∙ own_handed past event n 8 (omega (arith, below))) ∙ own_lines past event n)
    (ap (λ all. answer_lines (filter (of_sink n) (answered airs_of all steps))) asked ∙ ap answer_lines (answers_of steps past event n (omega (arith, below)))))

pub first_printed : (steps : List Step) (closed : Option ℕ) → closed ≡ open_event (steps_of_source 0 steps)
    → first_lines (closing airs_of 0 steps) (answered airs_of (offers_at airs_of steps) steps) ≡ lines_closed steps (histories_of steps) closed
first_printed steps closed is = lines_in steps closed (units_are steps closed is) (offers_same steps closed is)

-- What is offered to a stream of source 1 is what one sink handed up of one of its streams.
use Rattle.scenario_laws.proofs.Known.Sources.Steps.{ℕ, zero, suc, ◌≡◌, ◌≢◌, ◌<◌, ◌≤◌, ◌+◌, ◌==◌, ◌∙◌, Bool, true, false, cond, List, [], ◌∷◌, ◌++◌, map, Option, None, Some, refl, sym, ap, subst, arith, inl, inr, Contains, filter, flat_map, range_with_len, cases_Bool, cases_eq, and_right, eq-eqb, eqb-true, false_from_ne_true, false≢true, or_parts, append-nil, map-append, filter-append, IsInRange, Step, Handed, SinkUnit, handed_by, open_event, Airs, chosen_of, steps_of_source, Answered, Offer, after_offer, all_answered, answered_by, closes_first, handed_of, happened, offered_of, offered_to, offers_at, units_on, with_relayed_units, handed_on, is_route, offered, AreSaidLegally, Route, had_relay, relay_of, relays_to, Unit as AudioUnit, closing, sink_numbers, answered, left_by_relayed_units, OneStands, contains_cases, first_free, one_stands, had_happened, none_now, none_offered, route_had, eqb, and_left, ◌&&◌}

-- ---- lists

-- of a range only one number gives something
flat_past : {B : Type 0} (f : ℕ → List B) (n start count : ℕ) → n < start → ((m : ℕ) → m ≢ n → f m ≡ [])
    → flat_map f (range_with_len start count) ≡ []
flat_past f n start zero past others = refl
flat_past f n start (suc count) past others =
    cc (others start (λ same. omega (arith, same, past)), flat_past f n (start + 1) count (omega (arith, past)) others)

pub flat_one : {B : Type 0} (f : ℕ → List B) (n start count : ℕ) → start ≤ n → n < start + count → ((m : ℕ) → m ≢ n → f m ≡ [])
    → flat_map f (range_with_len start count) ≡ f n
flat_one f n start zero least below others = absurd (omega (arith, least, below))
flat_one f n start (suc count) least below others = elim (cases_eq start n) [
  | inl same ↦ ap (λ l. f start ++ l) (flat_past f n (start + 1) count (omega (arith, same)) others) ∙ append-nil (f start) ∙ ap f same
  | inr other ↦
      ap (λ l. l ++ flat_map f (range_with_len (start + 1) count)) (others start other)
      ∙ flat_one f n (start + 1) count (omega (arith, least, other)) (omega (arith, below)) others
]

-- ---- the units offered to a stream

abbrev units_to : ℕ → List Offer → List AudioUnit
units_to to offers = map (λ (offer : Offer). offer.unit) (filter (λ (offer : Offer). offer.route.to == to) offers)

units_to_append : (to : ℕ) (one other : List Offer) → units_to to (one ++ other) ≡ units_to to one ++ units_to to other
units_to_append to one other = search (filter-append, map-append)

units_to_flat : (to : ℕ) (f : ℕ → List Offer) (ms : List ℕ) → units_to to (flat_map f ms) ≡ flat_map (λ m. units_to to (f m)) ms
units_to_flat to f [] = refl
units_to_flat to f (m ∷ ms) = units_to_append to (f m) (flat_map f ms) ∙ ap (λ l. units_to to (f m) ++ l) (units_to_flat to f ms)

-- each unit that is offered is answered
answered_units : (airs : Airs) (to : ℕ) (offers : List Offer) (made : List Step)
    → map (λ (a : Answered). a.offer.unit) (offered_to to (answered airs offers made)) ≡ units_to to offers
answered_units airs to [] made = refl
answered_units airs to (offer ∷ offers) made =
    let next = after_offer airs offer made in
    grind (arith, (answered_units airs to offers next))

one_more : (hit : Bool) (n : ℕ) (route : Route) (unit : AudioUnit) (units : List AudioUnit) (offers : List Offer)
    → map (λ (offer : Offer). offer.unit) offers ≡ cond hit units []
    → map (λ (offer : Offer). offer.unit) (cond hit (record { sink = n; route = route; unit = unit } ∷ offers) offers) ≡ cond hit (unit ∷ units) []
one_more hit n route unit units offers same = grind arith

route_units : (to n : ℕ) (route : Route) (units : List AudioUnit)
    → units_to to (map (λ unit. record { sink = n; route = route; unit = unit }) units) ≡ cond (route.to == to) units []
route_units to n route [] = grind arith
route_units to n route (unit ∷ units) = search (one_more, route_units to n route units)

-- what one sink offers to the stream
own_units : (n bis to : ℕ) (made : List Step) (relay : Option Route) (units : List Handed) → OneStands n bis to made
    → relay_of n made ≡ relay → units_to to (offered_of n relay units) ≡ cond (is_route bis to relay) (units_on bis units) []
own_units n bis to made None units stands is = refl
own_units n bis to made (Some route) units stands is = route_units to n route (units_on route.bis units)
    ∙ elim (cases_Bool (route.to == to)) [
      | inl goes ↦ grind (arith, (stands n route is (eqb-true route.to to goes)).1, eq-eqb route.bis bis (stands n route is (eqb-true route.to to goes)).1)
      | inr not ↦ rw (and_right (route.bis == bis) (route.to == to) not, not) refl
    ]

other_units : (n bis to m : ℕ) (made : List Step) (relay : Option Route) (units : List Handed) → OneStands n bis to made
    → relay_of m made ≡ relay → m ≢ n → units_to to (offered_of m relay units) ≡ []
other_units n bis to m made None units stands is other = refl
other_units n bis to m made (Some route) units stands is other = grind (arith, false_from_ne_true (route.to == to) (λ goes. other (stands m route is (eqb-true route.to to goes)).0), route_units to m route (units_on route.bis units))

offers_units : (airs : Airs) (n bis to : ℕ) (made : List Step) → n ≤ 7 → OneStands n bis to made
    → units_to to (offers_at airs made) ≡ cond (is_route bis to (relay_of n made)) (units_on bis (handed_of 0 n (closing airs 0 made))) []
unfolding sink_numbers
offers_units airs n bis to made below stands =
    let all = closing airs 0 made in
    let f = λ (m : ℕ). offered_of m (relay_of m made) (handed_of 0 m all) in
    units_to_flat to f (range_with_len 0 8) ∙ flat_one (λ m. units_to to (f m)) n 0 8 (omega arith) (omega (arith, below))
    (λ m other. other_units n bis to m made (relay_of m made) (handed_of 0 m all) stands refl other)
    ∙ own_units n bis to made (relay_of n made) (handed_of 0 n all) stands refl

-- ---- what the sink hands up of source 0

pub handed_append : (s n : ℕ) (one other : List SinkUnit) → handed_of s n (one ++ other) ≡ handed_of s n one ++ handed_of s n other
handed_append s n one other = search (filter-append, map-append)

pub not_handed : (s n c m box : ℕ) (units : List Handed) → (eqb c s && eqb m n) ≡ false
    → handed_of s n (map (λ unit. record { source = c; sink = m; box = box; unit = unit }) units) ≡ []
not_handed s n c m box [] apart = refl
not_handed s n c m box (unit ∷ units) apart = rw apart (not_handed s n c m box units apart)

not_flat : (s n : ℕ) (f : ℕ → List SinkUnit) (ms : List ℕ) → ((m : ℕ) → handed_of s n (f m) ≡ []) → handed_of s n (flat_map f ms) ≡ []
not_flat s n f [] each = refl
not_flat s n f (m ∷ ms) each = cc (handed_append s n (f m) (flat_map f ms), each m, not_flat s n f ms each)

-- another source closes nothing of this one
pub not_closing : (airs : Airs) (s n t : ℕ) (made : List Step) → (t == s) ≡ false → handed_of s n (closing airs t made) ≡ []
not_closing airs s n t made other = grind (arith, not_flat, not_handed, and_left, open_event, steps_of_source)

-- a close of the chosen source
by_chosen : (airs : Airs) (n : ℕ) (made after_relays : List Step) (hit : Bool) → (chosen_of made == 0) ≡ hit → chosen_of after_relays ≡ chosen_of made
    → closing airs 0 after_relays ≡ closing airs 0 made
    → handed_of 0 n (closing airs (chosen_of after_relays) after_relays) ≡ cond hit (handed_of 0 n (closing airs 0 made)) []
by_chosen airs n made after_relays hit is same closes = grind (arith, eqb-true, not_closing)

-- what the sink hands up of source 0 by a step, behind the relayed units
pub first_handed : (airs : Airs) (n : ℕ) (made : List Step) (step : Step) → handed_of 0 n (handed_by airs (with_relayed_units airs made step) step)
    ≡ cond (closes_first made step) (handed_of 0 n (closing airs 0 made)) []
first_handed airs n made Step.End =
    let after_relays = with_relayed_units airs made Step.End in
    handed_append 0 n (closing airs 0 after_relays) (closing airs 1 after_relays)
    ∙ ap (λ l. handed_of 0 n (closing airs 0 after_relays) ++ l) (not_closing airs 0 n 1 after_relays refl)
    ∙ append-nil (handed_of 0 n (closing airs 0 after_relays)) ∙ ap (handed_of 0 n) (left_by_relayed_units airs made Step.End).closing_first
first_handed airs n made step =
    search (by_chosen airs n made (with_relayed_units airs made step) (chosen_of made == 0) refl (left_by_relayed_units airs made step).chosen (left_by_relayed_units airs made step).closing_first)

-- ---- one step, and all steps

offers_if : (closes : Bool) (airs : Airs) (n bis to : ℕ) (made : List Step) → n ≤ 7 → OneStands n bis to made
    → units_to to (cond closes (offers_at airs made) []) ≡ cond (is_route bis to (relay_of n made)) (units_on bis (cond closes (handed_of 0 n (closing airs 0 made)) [])) []
offers_if true airs n bis to made below stands = offers_units airs n bis to made below stands
offers_if false airs n bis to made below stands = grind arith

offered_now : (airs : Airs) (n bis to : ℕ) (made : List Step) (step : Step) → n ≤ 7 → OneStands n bis to made
    → map (λ (a : Answered). a.offer.unit) (offered_to to (answered_by airs made step)) ≡ cond (is_route bis to (relay_of n made)) (handed_on airs n bis made step) []
offered_now airs n bis to made this below stands = search (answered_units, offers_if, first_handed)

no_way : (n bis to : ℕ) (made : List Step) (relay : Option Route) → relay_of n made ≡ relay → had_relay to made ≡ false
    → is_route bis to relay ≡ false
no_way n bis to made None is none = refl
no_way n bis to made (Some route) is none =
    and_right (route.bis == bis) (route.to == to) (false_from_ne_true (route.to == to) (λ goes.
    false≢true (sym none ∙ ap (λ b. had_relay b made) (sym (eqb-true route.to to goes)) ∙ route_had n made route is)))

not_offered : (airs : Airs) (n bis to : ℕ) (said : List Step) → had_relay to said ≡ false → offered airs n bis to said ≡ []
not_offered airs n bis to [] none = refl
not_offered airs n bis to (step ∷ earlier) none =
    let made = happened airs earlier in
    let parts = or_parts (relays_to to step) (had_relay to earlier) none in
    ap (λ l. l ++ cond (is_route bis to (relay_of n made)) (handed_on airs n bis made step) []) (not_offered airs n bis to earlier parts.1)
    ∙ ap (λ hit. cond hit (handed_on airs n bis made step) [])
    (no_way n bis to made (relay_of n made) refl (had_happened airs to earlier ∙ parts.1))

-- nor by the step that makes the relay
pub not_yet : (airs : Airs) (n bis to : ℕ) (step : Step) (earlier : List Step) → had_relay to earlier ≡ false
    → offered airs n bis to (step ∷ earlier) ≡ []
not_yet airs n bis to step earlier none =
    let made = happened airs earlier in
    let now = handed_on airs n bis made step in
    ap (λ l. l ++ cond (is_route bis to (relay_of n made)) now []) (not_offered airs n bis to earlier none)
    ∙ ap (λ hit. cond hit now []) (no_way n bis to made (relay_of n made) refl (had_happened airs to earlier ∙ none))

pub in_range : (airs : Airs) (boxes n bis to : ℕ) (said : List Step) → AreSaidLegally airs boxes said → Contains said (Step.Relay n bis to)
    → n ≤ 7
in_range airs boxes n bis to [] legal within = absurd (omega (arith, within.1))
in_range airs boxes n bis to (step ∷ earlier) legal within = elim (contains_cases step earlier (Step.Relay n bis to) within) [
  | inl is ↦ subst IsInRange is legal.2
  | inr before ↦ in_range airs boxes n bis to earlier legal.0 before
]

units_append : (to : ℕ) (one other : List Answered) → map (λ (a : Answered). a.offer.unit) (offered_to to (one ++ other))
    ≡ map (λ (a : Answered). a.offer.unit) (offered_to to one) ++ map (λ (a : Answered). a.offer.unit) (offered_to to other)
units_append to one other = search (filter-append, map-append)

pub all_offered : (airs : Airs) (boxes n bis to : ℕ) (said : List Step) → AreSaidLegally airs boxes said
    → Contains said (Step.Relay n bis to)
    → map (λ (a : Answered). a.offer.unit) (offered_to to (all_answered airs said)) ≡ offered airs n bis to said
all_offered airs boxes n bis to [] legal within = absurd (omega (arith, within.1))
all_offered airs boxes n bis to (step ∷ earlier) legal within =
    let made = happened airs earlier in
    let now = answered_by airs made step in
    let units = λ (answers : List Answered). map (λ (a : Answered). a.offer.unit) (offered_to to answers) in
    let parts = units_append to (all_answered airs earlier) now in
    elim (contains_cases step earlier (Step.Relay n bis to) within) [
      | inl is ↦
          let none = first_free airs boxes n bis to step made is legal.1 in
          let before = sym (had_happened airs to earlier) ∙ none in
          parts ∙ ap (λ l. map (λ (a : Answered). a.offer.unit) l ++ units now) (none_offered airs to earlier before)
          ∙ ap (map (λ (a : Answered). a.offer.unit)) (none_now airs to made step none) ∙ sym (not_yet airs n bis to step earlier before)
      | inr before ↦
          parts ∙ ap (λ l. l ++ units now) (all_offered airs boxes n bis to earlier legal.0 before)
          ∙ ap (λ l. offered airs n bis to earlier ++ l)
          (cc (offered_now airs n bis to made step (in_range airs boxes n bis to earlier legal.0 before) (one_stands airs boxes n bis to earlier legal.0 before)))
    ]

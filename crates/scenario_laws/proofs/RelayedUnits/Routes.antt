-- A line of version 1 is no `relay` line: no row of the table that version 1 knows makes one.
use Rattle.scenario_laws.proofs.Known.Sources.Steps.Prelude.{ℕ, ◌≡◌, Bool, false, cond, nat_eq, List, [], ◌∷◌, Option, None, Some, Result, Ok, Err, refl, arith, TextLine, ◌>>=◌, LineFault, at_known, built_at, Build, Row, event_rows, first_rows, link_rows, row_in, sink_rows, source_rows, Step, a_step, nothing, said_by, said_in, unsaid, has_relay, makes_relay, ◌==◌, ◌||◌, ◌∙◌, true, ◌++◌, map, sym, ap, unwrap_or, All, filter, flat_map, option_or, and_right, eq-eqb, eqb-true, false_from_ne_true, false≢true, or_parts, or_right, All-append, All-cons, All-head, All-nil, All-tail, filter-append, none-some, same_Some, Handed, Airs, chosen_of, last_given, Answered, Offer, after_offer, all_answered, answered_by, closes_first, dropped_for, happened, offered_of, offered_to, offers_at, offers_before, units_on, with_relayed_units, NoneRelayed, is_relayed, Route, had_relay, relay_given, relay_of, relays_to, Left, at_place, read_of, step_of, first_row_of, link_row_of, row_of, row_of_2, sink_row_of, source_row_of, Said, or_left, Unit as AudioUnit, answered}
use Rattle.scenario_words.specs.Places.{Place, PlaceValue}
use Rattle.scenario_laws.proofs.RelayedUnits.Left.{left_by_relayed_units}

-- whatever stands at the places
abbrev Never : (places : List Place) → Build places → Type 0
Never [] made = makes_relay made ≡ false
Never (place ∷ places) build = (value : PlaceValue place) → Never places (build value)

abbrev AllNever : List Row → Type 0
AllNever [] = Unit {0}
AllNever (row ∷ rows) = Never row.places row.build × AllNever rows

-- what is read makes no relay
abbrev MadeNever : Result (Step × Left) LineFault → Type 0
MadeNever (Ok made) = makes_relay made.0 ≡ false
MadeNever (Err fault) = Unit {0}

abbrev StepNever : Result Step LineFault → Type 0
StepNever (Ok made) = makes_relay made ≡ false
StepNever (Err fault) = Unit {0}

made_then : {A : Type 0} (read : Result A LineFault) (f : A → Result (Step × Left) LineFault) → ((a : A) → MadeNever (f a)) → MadeNever (read >>= f)
made_then read f never = grind arith

built_never : (places : List Place) (build : Build places) (left : Left) → Never places build → MadeNever (built_at places build left)
built_never [] made left never = never
built_never (place ∷ places) build left never =
    made_then (at_place place left) (λ value. built_at places (build value.0) value.1) (λ value. built_never places (build value.0) value.1 (never value.0))

-- a row or none
abbrev KnownNever : Option Row → Type 0
KnownNever known = (left : Left) → MadeNever (at_known known left)

never_if : (hit : Bool) (row : Row) (other : Option Row) → Never row.places row.build → KnownNever other → KnownNever (cond hit (Some row) other)
never_if hit row other here rest = grind (arith, built_never)

in_rows_never : (first : List ℕ) (rows : List Row) (other : Option Row) → AllNever rows → KnownNever other → KnownNever (row_in first rows other)
in_rows_never first [] other never rest = rest
in_rows_never first (row ∷ rows) other never rest = search (never_if, in_rows_never first rows other never.1 rest)

-- version 1 knows none of the rows of version 2 alone
not_second : (second : Bool) (here : Option Row) → second ≡ false → KnownNever (cond second here None)
not_second second here first = grind arith

events_never : AllNever event_rows
events_never = (λ a b c. refl, (refl, (λ a b c d. refl, (λ a b. refl, (λ a b c d e. refl, (λ a b c. refl, tt))))))

sources_never : AllNever source_rows
sources_never = (λ a b c d. refl, (λ a b. refl, (λ a. refl, (λ a b. refl, (λ a b. refl, (λ a. refl, (λ a b c d e. refl, (λ a. refl, tt))))))))

sinks_never : AllNever sink_rows
sinks_never = (λ a b c d. refl, (λ a b. refl, (λ a b c. refl, (λ a b. refl, (λ a b c d e f g h. refl, (λ a b c d e. refl, (λ a b. refl, (λ a b c. refl, tt))))))))

links_never : AllNever link_rows
links_never = (λ a. refl, (λ a. refl, (λ a. refl, (λ a. refl, (λ a. refl, (λ a. refl, (λ a b. refl, (λ a b c. refl, tt))))))))

first_never : (version : ℕ) → AllNever (first_rows version)
first_never version = (λ a. refl, (λ a b c d e f g h i j k l m n o. refl, (λ a. refl, (λ a b c d. refl, (λ a b. refl, (λ a. refl, (refl, (refl, tt))))))))

rows_never : (version : ℕ) (first : List ℕ) → nat_eq version 2 ≡ false → KnownNever (row_of version first)
unfolding row_of first_row_of source_row_of sink_row_of link_row_of row_of_2
rows_never version first is =
    in_rows_never first event_rows (first_row_of version first) events_never
    (search (in_rows_never, first_rows, first_never, source_rows, sources_never, sink_rows, sinks_never, link_rows, links_never, not_second, nat_eq))

step_never : (version : ℕ) (line : List ℕ) → nat_eq version 2 ≡ false → StepNever (step_of version line)
unfolding step_of
step_never version line is = grind (arith, rows_never)

-- a line says no `relay`
abbrev pub SaidNever : Said → Type 0
SaidNever (a_step made) = makes_relay made ≡ false
SaidNever nothing = Unit {0}
SaidNever (unsaid reason) = Unit {0}

said_if : (is_comment : Bool) (read : Result Step LineFault) → StepNever read
    → SaidNever (said_by (cond is_comment (Ok None) (read >>= λ step. Ok (Some step))))
said_if is_comment read never = grind arith

pub says_no_relay : (version : ℕ) (line : TextLine) → nat_eq version 2 ≡ false → SaidNever (said_in version line)
unfolding read_of
says_no_relay version line is = grind (arith, said_if, step_never)

-- without another `relay` line there is none
pub plain_after : (made : List Step) (step : Step) → makes_relay step ≡ false → has_relay made ≡ false → has_relay (step ∷ made) ≡ false
plain_after made this none before = rw none before

-- ---- relays looked back for: whatever is offered is offered by a relay that stands, to a stream that has had a relay

-- ---- a relay that stands

made_had : (hit : Bool) (made route : Route) (later : Option (Option Route)) (had : Bool) → (unwrap_or later None ≡ Some route → had ≡ true)
    → unwrap_or (option_or (cond hit (Some (Some made)) None) later) None ≡ Some route → ((made.to == route.to) || had) ≡ true
made_had hit made route later had before is = grind (arith, or_left, eq-eqb, same_Some, or_right)

dropped_had : (hit : Bool) (route : Route) (later : Option (Option Route)) (had : Bool) → (unwrap_or later None ≡ Some route → had ≡ true)
    → unwrap_or (option_or (cond hit (Some None) None) later) None ≡ Some route → had ≡ true
dropped_had hit route later had before is = grind (arith, none-some)

-- the stream that a relay goes to has had one
pub route_had : (n : ℕ) (made : List Step) (route : Route) → relay_of n made ≡ Some route → had_relay route.to made ≡ true
route_had n [] route is = absurd (none-some route is)
route_had n (Step.Relay sink bis to ∷ earlier) route is = cc (made_had (sink == n) (record { bis = bis; to = to }) route (last_given (relay_given n) earlier) (had_relay route.to earlier) (route_had n earlier route) is)
route_had n (Step.Drop sink ∷ earlier) route is = search (dropped_had, route_had n earlier route)
route_had n (this ∷ earlier) route is = route_had n earlier route is

-- ---- what is offered

flat_all : {A B : Type 0} (P : B → Type 0) (f : A → List B) (xs : List A) → ((x : A) → All P (f x)) → All P (flat_map f xs)
flat_all P f [] each = All-nil P
flat_all P f (x ∷ xs) each = All-append P (f x) (flat_map f xs) (each x) (flat_all P f xs each)

-- the relay of the sink stands as the unit is offered
abbrev pub Stands : List Step → Offer → Type 0
Stands made offer = relay_of offer.sink made ≡ Some offer.route

of_route : (made : List Step) (n : ℕ) (route : Route) (units : List AudioUnit) → relay_of n made ≡ Some route
    → All (Stands made) (map (λ unit. record { sink = n; route = route; unit = unit }) units)
of_route made n route [] is = All-nil (Stands made)
of_route made n route (unit ∷ units) is =
    All-cons (Stands made) (record { sink = n; route = route; unit = unit })
    (map (λ u. record { sink = n; route = route; unit = u }) units) is (of_route made n route units is)

of_relay : (made : List Step) (n : ℕ) (relay : Option Route) (units : List Handed) → relay_of n made ≡ relay
    → All (Stands made) (offered_of n relay units)
of_relay made n None units is = All-nil (Stands made)
of_relay made n (Some route) units is = of_route made n route (units_on route.bis units) is

pub offers_stand : (airs : Airs) (made : List Step) → All (Stands made) (offers_at airs made)
offers_stand airs made = search (flat_all, of_relay)

answers_of : (airs : Airs) (P : Offer → Type 0) (offers : List Offer) (made : List Step) → All P offers
    → All (λ (answer : Answered). P answer.offer) (answered airs offers made)
answers_of airs P [] made all = All-nil (λ (answer : Answered). P answer.offer)
answers_of airs P (offer ∷ offers) made all =
    All-cons (λ (answer : Answered). P answer.offer) (record { offer = offer; reason = dropped_for airs offer made })
    (answered airs offers (after_offer airs offer made)) (All-head P offer offers all)
    (answers_of airs P offers (after_offer airs offer made) (All-tail P offer offers all))

-- ---- a stream that has had no relay

filter_none : {A : Type 0} (test : A → Bool) (xs : List A) → All (λ x. test x ≡ false) xs → filter test xs ≡ []
filter_none test [] none = refl
filter_none test (x ∷ xs) none =
    rw (All-head (λ x. test x ≡ false) x xs none) (filter_none test xs (All-tail (λ x. test x ≡ false) x xs none))

-- nothing is offered to it
pub none_now : (airs : Airs) (to : ℕ) (made : List Step) (step : Step) → had_relay to made ≡ false
    → offered_to to (answered_by airs made step) ≡ []
none_now airs to made step none =
    filter_none (λ (answer : Answered). answer.offer.route.to == to) (answered_by airs made step)
    (λ k d within. false_from_ne_true _ (λ its.
    let had = route_had _ made _ ((answers_of airs (Stands made) (offers_before airs made step) made (grind (
      arith,
      closes_first,
      offers_at,
      offers_stand,
    ))) k d within) in
    false≢true (sym none ∙ ap (λ bis. had_relay bis made) (sym (eqb-true _ to its)) ∙ had)))

-- relayed units make no relay
pub had_happened : (airs : Airs) (to : ℕ) (said : List Step) → had_relay to (happened airs said) ≡ had_relay to said
had_happened airs to [] = refl
had_happened airs to (step ∷ earlier) = cc ((left_by_relayed_units airs (happened airs earlier) step).had to, had_happened airs to earlier)

pub none_offered : (airs : Airs) (to : ℕ) (said : List Step) → had_relay to said ≡ false → offered_to to (all_answered airs said) ≡ []
none_offered airs to [] none = refl
none_offered airs to (step ∷ earlier) none =
    let parts = or_parts (relays_to to step) (had_relay to earlier) none in
    let made = happened airs earlier in
    filter-append (λ (answer : Answered). answer.offer.route.to == to) (all_answered airs earlier) (answered_by airs made step)
    ∙ ap (λ l. l ++ offered_to to (answered_by airs made step)) (none_offered airs to earlier parts.1)
    ∙ none_now airs to made step (had_happened airs to earlier ∙ parts.1)

-- ---- a scenario without relays

flat_none : {A B : Type 0} (f : A → List B) (xs : List A) → ((x : A) → f x ≡ []) → flat_map f xs ≡ []
flat_none f [] each = refl
flat_none f (x ∷ xs) each = ap (λ l. l ++ flat_map f xs) (each x) ∙ flat_none f xs each

no_route : (n : ℕ) (made : List Step) → has_relay made ≡ false → relay_of n made ≡ None
no_route n [] none = refl
no_route n (Step.Relay sink bis to ∷ earlier) none = absurd (false≢true (sym none))
no_route n (Step.Drop sink ∷ earlier) none = grind (arith, (no_route n earlier none))
no_route n (this ∷ earlier) none = no_route n earlier none

pub no_offers : (airs : Airs) (made : List Step) → has_relay made ≡ false → offers_at airs made ≡ []
no_offers airs made none = search (flat_none, no_route)

pub nothing_else : (airs : Airs) (said : List Step) → has_relay said ≡ false → happened airs said ≡ said
nothing_else airs [] none = refl
nothing_else airs (step ∷ earlier) none =
    let before = (or_parts (makes_relay step) (has_relay earlier) none).1 in
    ap (λ made. step ∷ with_relayed_units airs made step) (nothing_else airs earlier before)
    ∙ ap (λ made. step ∷ made) (grind (arith, no_offers))

none_had : (bis : ℕ) (made : List Step) → has_relay made ≡ false → had_relay bis made ≡ false
none_had bis [] none = refl
none_had bis (Step.Relay sink from to ∷ earlier) none = absurd (false≢true (sym none))
none_had bis (this ∷ earlier) none = none_had bis earlier none

not_relayed : (made : List Step) (step : Step) → has_relay made ≡ false → is_relayed made step ≡ false
not_relayed made (Step.Unit bis time octets) none = and_right (chosen_of made == 1) (had_relay bis made) (none_had bis made none)
not_relayed made this none = refl

pub none_relayed : (boxes : ℕ) → NoneRelayed boxes
none_relayed boxes airs made step none = cc (not_relayed made step none)

-- What the relay of a sink offered is the end of what the sink handed up since it was made: while the relay stands, the sink lives.
use Rattle.scenario_laws.proofs.Known.Sources.Steps.{ℕ, ◌≡◌, ◌==◌, ◌∙◌, cond, Bool, true, false, List, [], ◌∷◌, ◌++◌, Option, None, Some, arith, is_some, refl, sym, ap, append_assoc, inl, inr, unwrap_or, Contains, option_or, eq-eqb, eqb-true, false_from_ne_true, false≢true, append-nil, map-append, flat_map-append, filter-append, none-some, same_Some, Step, Refusal, SinkUnit, box_of, handed_by, fails_not, permitted, line_refusal, refuse_if, Airs, last_given, handed_since, is_made, of_sink, Offer, after_offer, after_offers, happened, offers_before, units_on, with_relayed_unit_unless, with_relayed_units, handed_on, is_route, offered, AreLegal, AreSaidLegally, Route, had_relay, relay_given, relay_of, EndsWith, suc, ◌⊎◌, ◌<◌, ◌≤◌, ◌&&◌, ◌||◌, length, slice_get, subst, and_parts, cases_Bool, or_parts, IsInRange, given, MeetAirs, closes_first, setup_of, source_calls, chosen_of, is_of_source, steps_of_source, StepsInOrder, given_since_made, injected_since, is_injected, air_in, injected_till_last_offer, Unit as AudioUnit, neither, OneStands, contains_cases, first_free, had_happened, happens_legally, has_had, is_free, left_by_relayed_units, line_passes, one_stands, chosen_happened, Numbered, numbered_slots, numbered_units, made_alike, given_is_injected, map, slice_index, AllZip, IsStrictlyIncreasing, length-map, slice_get_within, Setup, Handed, RelayLaw, shown_since, InFirstOrder, InRelayOrder, IsOfOffered, RelayedUnits, UnitPlace, at_map, in_relay_order, zip_map}
use Rattle.scenario_laws.proofs.RelayedUnits.Offered.{not_yet, first_handed, in_range}
use Rattle.scenario_laws.proofs.RelayedUnits.Dropped.{settled}

-- ---- a sink with a relay lives

dropped_boxed : (hit : Bool) (later : Option (Option Route)) (route : Route) (box : Option ℕ)
    → (unwrap_or later None ≡ Some route → is_some box ≡ true)
    → unwrap_or (option_or (cond hit (Some None) None) later) None ≡ Some route → is_some (cond hit None box) ≡ true
dropped_boxed hit later route box before is = grind (arith, none-some)

boxed : (airs : Airs) (boxes n : ℕ) (route : Route) (made : List Step) → AreLegal airs boxes made → relay_of n made ≡ Some route
    → is_some (box_of n made) ≡ true
boxed airs boxes n route [] legal is = absurd (none-some route is)
boxed airs boxes n route (Step.Relay sink bis to ∷ earlier) legal is =
    grind (
      arith,
      is_some,
      (eqb-true sink n),
      ((is_free airs boxes earlier sink bis to legal.1).living),
      (boxed airs boxes n route earlier legal.0),
    )
boxed airs boxes n route (Step.Drop sink ∷ earlier) legal is = search (dropped_boxed, boxed airs boxes n route earlier legal.0)
boxed airs boxes n route (Step.Sink sink streams slots mtu ∷ earlier) legal is =
    grind (arith, (boxed airs boxes n route earlier legal.0 is))
boxed airs boxes n route (this ∷ earlier) legal is = boxed airs boxes n route earlier legal.0 is

-- a sink that lives isn't made
made_not : (airs : Airs) (boxes n : ℕ) (made after_relays : List Step) (step : Step) → line_refusal airs boxes made step ≡ None
    → is_some (box_of n made) ≡ true → is_made n after_relays step ≡ false
made_not airs boxes n made after_relays this none living =
    grind (arith, permitted, neither, refuse_if, is_some, box_of, fails_not, line_passes, false_from_ne_true, false≢true, eqb-true)

-- ---- what it handed up

abbrev since : Airs → ℕ → List Step → List SinkUnit
since airs n made = handed_since (is_made n) airs made

unless_since : (airs : Airs) (n : ℕ) (reason : Option Refusal) (offer : Offer) (made : List Step)
    → since airs n (with_relayed_unit_unless reason offer made) ≡ since airs n made
unless_since airs n reason offer made = grind (arith, append-nil)

offers_since : (airs : Airs) (n : ℕ) (offers : List Offer) (made : List Step)
    → since airs n (after_offers airs offers made) ≡ since airs n made
offers_since airs n [] made = refl
offers_since airs n (offer ∷ offers) made = search (unless_since, offers_since airs n offers (after_offer airs offer made))

abbrev own_units : ℕ → ℕ → List SinkUnit → List AudioUnit
own_units n bis units = units_on bis (of_sink 0 n units)

step_since : (made_now : Bool) (n bis : ℕ) (before now : List SinkUnit) → made_now ≡ false
    → own_units n bis (cond made_now [] (before ++ now)) ≡ own_units n bis before ++ own_units n bis now
step_since made_now n bis before now not = grind (arith, false≢true, filter-append, map-append, flat_map-append)

-- ---- its end

-- the sink still has the relay to the stream, of which the `relay` line was made before
goes_on : (airs : Airs) (boxes n bis to : ℕ) (step : Step) (earlier : List Step) (route : Route)
    → AreSaidLegally airs boxes (step ∷ earlier)
    → relay_of n (happened airs earlier) ≡ Some route → is_route bis to (relay_of n (happened airs earlier)) ≡ true
    → EndsWith (own_units n bis (since airs n (happened airs earlier))) (offered airs n bis to earlier)
    → EndsWith (own_units n bis (since airs n (happened airs (step ∷ earlier)))) (offered airs n bis to (step ∷ earlier))
goes_on airs boxes n bis to step earlier route legal is goes ends =
    let made = happened airs earlier in
    let after_relays = with_relayed_units airs made step in
    let now = handed_on airs n bis made step in
    let living = boxed airs boxes n route made (happens_legally airs boxes earlier legal.0) is in
    record {
      before = ends.before;
      parts = step_since (is_made n after_relays step) n bis (since airs n after_relays) (handed_by airs after_relays step)
          (made_not airs boxes n made after_relays step legal.1 living)
          ∙ ap (λ l. own_units n bis l ++ now) (offers_since airs n (offers_before airs made step) made) ∙ ap (λ l. l ++ now) ends.parts
          ∙ append_assoc ends.before (offered airs n bis to earlier) now
          ∙ ap (λ hit. ends.before ++ (offered airs n bis to earlier ++ cond hit now [])) (sym goes);
    }

still_if : (hit : Bool) (made route : Route) (later : Option (Option Route)) → (hit ≡ true → made.to ≡ route.to → ⊥)
    → unwrap_or (option_or (cond hit (Some (Some made)) None) later) None ≡ Some route → unwrap_or later None ≡ Some route
still_if hit made route later other is = grind (arith, same_Some)

dropped_not : (hit : Bool) (route : Route) (later : Option (Option Route))
    → unwrap_or (option_or (cond hit (Some None) None) later) None ≡ Some route → unwrap_or later None ≡ Some route
dropped_not hit route later is = grind (arith, none-some)

-- a relay to a stream that had one stood before
stood : (airs : Airs) (boxes n to : ℕ) (made after_relays : List Step) (step : Step) (route : Route) → line_refusal airs boxes made step ≡ None
    → had_relay to made ≡ true → relay_of n (step ∷ after_relays) ≡ Some route → route.to ≡ to → relay_of n after_relays ≡ Some route
stood airs boxes n to made after_relays (Step.Relay sink from into) route none had is goes =
    still_if (sink == n) (record { bis = from; to = into }) route (last_given (relay_given n) after_relays)
    (λ its same. false≢true (cc ((is_free airs boxes made sink from into (line_passes airs boxes made (Step.Relay sink from into) none)).had))) is
stood airs boxes n to made after_relays (Step.Drop sink) route none had is goes = search (dropped_not)
stood airs boxes n to made after_relays this route none had is goes = is

is_its : (n bis to : ℕ) (made : List Step) (route : Route) → OneStands n bis to made → relay_of n made ≡ Some route → route.to ≡ to
    → is_route bis to (relay_of n made) ≡ true
is_its n bis to made route stands is goes = grind (arith, eq-eqb route.bis bis (stands n route is goes).1, eq-eqb route.to to goes)

pub ends_with : (airs : Airs) (boxes n bis to : ℕ) (said : List Step) → AreSaidLegally airs boxes said
    → Contains said (Step.Relay n bis to) → (route : Route) → relay_of n (happened airs said) ≡ Some route → route.to ≡ to
    → EndsWith (own_units n bis (since airs n (happened airs said))) (offered airs n bis to said)
ends_with airs boxes n bis to [] legal within route is goes = absurd (none-some route is)
ends_with airs boxes n bis to (step ∷ earlier) legal within route is goes =
    let made = happened airs earlier in
    let left = left_by_relayed_units airs made step in
    elim (contains_cases step earlier (Step.Relay n bis to) within) [
      | inl line ↦
          let all = own_units n bis (since airs n (happened airs (step ∷ earlier))) in
          let none = sym (had_happened airs to earlier) ∙ first_free airs boxes n bis to step made line legal.1 in
          record { before = all; parts = sym (ap (λ l. all ++ l) (not_yet airs n bis to step earlier none) ∙ append-nil all) }
      | inr before ↦
          let had = had_happened airs to earlier ∙ has_had n bis to earlier before in
          let stands = sym (left.relay n) ∙ stood airs boxes n to made (with_relayed_units airs made step) step route legal.1 had is goes in
          goes_on airs boxes n bis to step earlier route legal stands
          (is_its n bis to made route (one_stands airs boxes n bis to earlier legal.0 before) stands goes)
          (ends_with airs boxes n bis to earlier legal.0 before route stands goes)
    ]

-- ---- what the relay of a sink offered is in the order of source 0: as an event of source 0 is closed while the relay stands, it is the end
-- of what the sink handed up, and no other step offers anything.

-- ---- a list behind another

-- the place in the whole list of a place in the second
abbrev behind : List AudioUnit → ℕ → ℕ
behind [] k = k
behind (x ∷ xs) k = suc (behind xs k)

get_behind : (xs ys : List AudioUnit) (k : ℕ) (unit : AudioUnit) → slice_get ys k ≡ Some unit
    → slice_get (xs ++ ys) (behind xs k) ≡ Some unit
get_behind [] ys k unit is = is
get_behind (x ∷ xs) ys k unit is = get_behind xs ys k unit is

behind_rises : (xs : List AudioUnit) (j k : ℕ) → j < k → behind xs j < behind xs k
behind_rises [] j k below = below
behind_rises (x ∷ xs) j k below = let now : behind xs j < behind xs k = behind_rises xs j k below in omega (arith, now)

behind_long : (xs ys : List AudioUnit) (k : ℕ) → k < length ys → behind xs k < length (xs ++ ys)
behind_long [] ys k below = below
behind_long (x ∷ xs) ys k below = let now : behind xs k < length (xs ++ ys) = behind_long xs ys k below in omega (arith, now)

-- what numbers a list numbers its end
numbered_end : (octets : List (List ℕ)) (all last : List AudioUnit) → EndsWith all last → Numbered octets all → Numbered octets last
numbered_end octets all last ends numbered = record {
  number = λ k. numbered.number (behind ends.before k);
  rises = λ j k below within.
      let long : behind ends.before k < length (ends.before ++ last) = behind_long ends.before last k within in
      numbered.rises (behind ends.before j) (behind ends.before k) (behind_rises ends.before j k below)
      (omega (arith, long, ap length ends.parts));
  gives = λ k unit is. numbered.gives (behind ends.before k) unit
      (ap (λ l. slice_get l (behind ends.before k)) ends.parts ∙ get_behind ends.before last k unit is);
}

-- ---- more units of source 0

abbrev Extends : List (List ℕ) → List (List ℕ) → Type 0
Extends one other = (k : ℕ) → (octets : List ℕ) → slice_get one k ≡ Some octets → slice_get other k ≡ Some octets

get_prefix : (xs ys : List (List ℕ)) → Extends xs (xs ++ ys)
get_prefix (x ∷ xs) ys (suc k) octets is = get_prefix xs ys k octets is
get_prefix xs ys k octets is = search (none-some)

own_extends : (mine : Bool) (bis : ℕ) (step : Step) (own : List Step)
    → Extends (given bis (source_calls own)) (given bis (source_calls (cond mine (step ∷ own) own)))
own_extends mine bis this own = grind (arith, get_prefix)

numbered_more : (one other : List (List ℕ)) (units : List AudioUnit) → Extends one other → Numbered one units → Numbered other units
numbered_more one other units extends numbered = search arith

-- ---- a sink that nothing was injected into

given_if : (begins one other : Bool) (rest others : Bool) → (one ≡ false → other ≡ false) → (rest ≡ false → others ≡ false)
    → cond begins one (one || rest) ≡ false → cond begins other (other || others) ≡ false
given_if begins one other rest others now before none = grind (arith, or_parts)

-- no train was given to it by its octets
pub ungiven : (n : ℕ) (made : List Step) → injected_since (is_made n) n made ≡ false → given_since_made n made ≡ false
ungiven n [] none = refl
ungiven n (this ∷ earlier) none = search (given_if, given_is_injected, ungiven n earlier)

-- relayed units inject nothing
injected_unless : (n : ℕ) (reason : Option Refusal) (offer : Offer) (made : List Step)
    → injected_since (is_made n) n (with_relayed_unit_unless reason offer made) ≡ injected_since (is_made n) n made
injected_unless n reason offer made = grind arith

injected_offers : (airs : Airs) (n : ℕ) (offers : List Offer) (made : List Step)
    → injected_since (is_made n) n (after_offers airs offers made) ≡ injected_since (is_made n) n made
injected_offers airs n [] made = refl
injected_offers airs n (offer ∷ offers) made = search (injected_unless, injected_offers airs n offers (after_offer airs offer made))

injected_happened : (airs : Airs) (n : ℕ) (said : List Step)
    → injected_since (is_made n) n (happened airs said) ≡ injected_since (is_made n) n said
injected_happened airs n [] = refl
injected_happened airs n (step ∷ earlier) =
    let now = is_injected n step in
    let after_relays = with_relayed_units airs (happened airs earlier) step in
    ap (λ begins. cond begins now (now || injected_since (is_made n) n after_relays)) (made_alike n after_relays earlier step)
    ∙ ap (λ rest. cond (is_made n earlier step) now (now || rest))
    (injected_offers airs n (offers_before airs (happened airs earlier) step) (happened airs earlier) ∙ injected_happened airs n earlier)

-- ---- a step that closes an event of source 0

-- relayed units are no part of the relays
relay_happened : (airs : Airs) (n : ℕ) (said : List Step) → relay_of n (happened airs said) ≡ relay_of n said
relay_happened airs n [] = refl
relay_happened airs n (step ∷ earlier) =
    grind (arith, ((left_by_relayed_units airs (happened airs earlier) step).relay n ∙ relay_happened airs n earlier))

closes_alike : (one other : List Step) (step : Step) → chosen_of one ≡ chosen_of other → closes_first one step ≡ closes_first other step
closes_alike one other this same = grind arith

-- it leaves the relays
close_relays : (n : ℕ) (said after_relays : List Step) (step : Step) → closes_first said step ≡ true
    → relay_of n (step ∷ after_relays) ≡ relay_of n after_relays
close_relays n said after_relays this is = grind (arith, false≢true)

-- and it injects nothing
close_injects : (n : ℕ) (said after_relays : List Step) (step : Step) → closes_first said step ≡ true
    → injected_since (is_made n) n (step ∷ after_relays) ≡ injected_since (is_made n) n after_relays
close_injects n said after_relays this is = grind (arith, false≢true)

-- ---- what it handed up

framing_if : (mine : Bool) (step : Step) (own : List Step) → IsInRange step → (setup_of own).info.framing ≤ 1
    → (setup_of (cond mine (step ∷ own) own)).info.framing ≤ 1
framing_if mine this own ranged before = grind arith

framing_fits : (airs : Airs) (boxes : ℕ) (made : List Step) → AreLegal airs boxes made
    → (setup_of (steps_of_source 0 made)).info.framing ≤ 1
framing_fits airs boxes [] legal = omega arith
framing_fits airs boxes (this ∷ earlier) legal = search (framing_if, framing_fits airs boxes earlier legal.0)

at_most_one : (k : ℕ) → k ≤ 1 → (k ≡ 0) ⊎ (k ≡ 1)
at_most_one k below = grind arith

-- all that the sink handed up of the stream since it was made is in the order of source 0
numbered_since : StepsInOrder → (airs : Airs) → MeetAirs airs → (boxes n bis : ℕ) (made : List Step) → AreLegal airs boxes made → n ≤ 7
    → 1 ≤ bis → bis ≤ 31 → injected_since (is_made n) n made ≡ false
    → Numbered (given bis (source_calls (steps_of_source 0 made))) (units_on bis (of_sink 0 n (handed_since (is_made n) airs made)))
numbered_since order airs meets boxes n bis made legal below least greatest clean =
    let stays = order airs meets boxes made legal 0 n (omega arith) (ungiven n made clean) in
    let setup = setup_of (steps_of_source 0 made) in
    let calls = source_calls (steps_of_source 0 made) in
    let units = of_sink 0 n (handed_since (is_made n) airs made) in
    elim (at_most_one setup.info.framing (framing_fits airs boxes made legal)) [
      | inl plain ↦ numbered_slots setup calls bis units (stays.in_source_order bis below least greatest plain clean)
      | inr framed ↦
          numbered_units setup calls bis (air_in airs (steps_of_source 0 made) bis) units
          (stays.in_unit_order bis below least greatest framed clean)
    ]

-- ---- while the relay stands, and behind its `drop`

record Way (to : ℕ) (relay : Option Route) : Type 0 where
  route : Route
  is : relay ≡ Some route
  goes : route.to ≡ to

way_of : (bis to : ℕ) (relay : Option Route) → is_route bis to relay ≡ true → Way to relay
way_of bis to relay is = grind (arith, false≢true, eqb-true, and_parts)

-- a step that closes no event of source 0 while the relay stands offers nothing
none_offered : (airs : Airs) (n bis to : ℕ) (step : Step) (earlier : List Step)
    → (is_route bis to (relay_of n earlier) && closes_first earlier step) ≡ false
    → offered airs n bis to (step ∷ earlier) ≡ offered airs n bis to earlier
none_offered airs n bis to step earlier not =
    let made = happened airs earlier in
    let before = offered airs n bis to earlier in
    let route = is_route bis to (relay_of n made) in
    let closes = closes_first made step in
    let same : (route && closes) ≡ (is_route bis to (relay_of n earlier) && closes_first earlier step) = grind (arith, relay_happened airs n earlier, closes_alike made earlier step (chosen_happened airs earlier)) in
    ap (λ units. before ++ cond route (units_on bis units) []) (first_handed airs n made step)
    ∙ ap (λ l. before ++ l) (grind (arith, false≢true, (same ∙ not))) ∙ append-nil before

numbered_none : (octets : List (List ℕ)) → Numbered octets []
numbered_none octets = record { number = λ k. k; rises = λ j k below within. below; gives = λ k unit is. absurd (none-some unit is) }

-- a step more gives source 0 the same units, and may be more
happens_more : (airs : Airs) (bis : ℕ) (made : List Step) (step : Step) → Extends (given bis (source_calls (steps_of_source 0 made)))
    (given bis (source_calls (steps_of_source 0 (step ∷ with_relayed_units airs made step))))
happens_more airs bis made step k octets is =
    let after_relays = with_relayed_units airs made step in
    own_extends (is_of_source 0 after_relays step) bis step (steps_of_source 0 after_relays) k octets
    (subst (λ own. slice_get (given bis (source_calls own)) k ≡ Some octets) (sym (left_by_relayed_units airs made step).first) is)

pub offered_numbered : StepsInOrder → (airs : Airs) → MeetAirs airs → (boxes n bis to : ℕ) (said : List Step)
    → AreSaidLegally airs boxes said
    → Contains said (Step.Relay n bis to) → 1 ≤ bis → bis ≤ 31 → injected_till_last_offer n bis to said ≡ false
    → Numbered (given bis (source_calls (steps_of_source 0 (happened airs said)))) (offered airs n bis to said)
offered_numbered order airs meets boxes n bis to [] legal within least greatest clean = absurd (omega (arith, within.1))
offered_numbered order airs meets boxes n bis to (step ∷ earlier) legal within least greatest clean =
    let said = step ∷ earlier in
    let made = happened airs earlier in
    let after_relays = with_relayed_units airs made step in
    let octets = given bis (source_calls (steps_of_source 0 (step ∷ after_relays))) in
    let left = left_by_relayed_units airs made step in
    let one = injected_since (is_made n) n earlier in
    let other = injected_till_last_offer n bis to earlier in
    elim (cases_Bool (is_route bis to (relay_of n earlier) && closes_first earlier step)) [
      | inl here ↦
          let parts = and_parts (is_route bis to (relay_of n earlier)) (closes_first earlier step) here in
          let relay : relay_of n (step ∷ after_relays) ≡ relay_of n earlier =
          close_relays n earlier after_relays step parts.1 ∙ left.relay n ∙ relay_happened airs n earlier in
          let way = way_of bis to (relay_of n (step ∷ after_relays)) (ap (is_route bis to) relay ∙ parts.0) in
          let clean_now : injected_since (is_made n) n (step ∷ after_relays) ≡ false = cc (close_injects n earlier after_relays step parts.1, injected_offers airs n (offers_before airs made step) made, injected_happened airs n earlier) in
          numbered_end octets (units_on bis (of_sink 0 n (handed_since (is_made n) airs (step ∷ after_relays)))) (offered airs n bis to said)
          (ends_with airs boxes n bis to said legal within way.route way.is way.goes) (search (numbered_since, happens_legally, in_range))
      | inr not ↦ elim (contains_cases step earlier (Step.Relay n bis to) within) [
        | inl is ↦
            let free : had_relay to earlier ≡ false =
            sym (had_happened airs to earlier) ∙ first_free airs boxes n bis to step made is legal.1 in
            subst (Numbered octets) (sym (not_yet airs n bis to step earlier free)) (numbered_none octets)
        | inr before ↦
            subst (Numbered octets) (sym (none_offered airs n bis to step earlier not))
            (numbered_more (given bis (source_calls (steps_of_source 0 made))) octets (offered airs n bis to earlier)
            (happens_more airs bis made step) (offered_numbered order airs meets boxes n bis to earlier legal.0 before least greatest
            (ap (λ b. cond b one other) (sym not) ∙ clean)))
      ]
    ]

-- ---- the relayed units law: what is in the order of source 1 is in the order of what the relaying sink handed up, and that is in the
-- order of source 0

-- ---- the numbers of the entries

-- each of these numbers is the place of one of the units
bounded : (setup : Setup) (to : ℕ) (units : List AudioUnit) (numbers : List ℕ) (entries : List Handed) (k : ℕ)
    → AllZip (IsOfOffered setup to units) numbers entries → k < length numbers → slice_index numbers k < length units
bounded setup to units [] entries k all below = absurd (omega (arith, below))
bounded setup to units (number ∷ numbers) (entry ∷ entries) (suc k) all below =
    bounded setup to units numbers entries k all.1 (omega (arith, below))
bounded setup to units numbers entries k all below = search slice_get_within

rising_units : (octets : List (List ℕ)) (units : List AudioUnit) (numbered : Numbered octets units) (setup : Setup) (to : ℕ)
    (entries : List Handed) (order : InRelayOrder setup to units entries) → IsStrictlyIncreasing (map numbered.number order.numbers)
rising_units octets units numbered setup to entries order k within = grind (arith, length, length-map, at_map, slice_index, bounded)

-- ---- the entries

abbrev unit_place : (ℕ → ℕ) → ℕ → UnitPlace
unit_place number k = record { number = number k; place = k }

numbers_are : (number : ℕ → ℕ) (ks : List ℕ) → map (λ (at : UnitPlace). at.number) (map (unit_place number) ks) ≡ map number ks
numbers_are number [] = refl
numbers_are number (k ∷ ks) = ap (λ l. number k ∷ l) (numbers_are number ks)

places_are : (number : ℕ → ℕ) (ks : List ℕ) → map (λ (at : UnitPlace). at.place) (map (unit_place number) ks) ≡ ks
places_are number [] = refl
places_are number (k ∷ ks) = ap (λ l. k ∷ l) (places_are number ks)

in_first_order : (octets : List (List ℕ)) (units : List AudioUnit) → Numbered octets units → (setup : Setup) (to : ℕ) (entries : List Handed)
    → InRelayOrder setup to units entries → InFirstOrder octets units setup to entries
in_first_order octets units numbered setup to entries order = record {
  units = map (unit_place numbered.number) order.numbers;
  numbers_rise = grind (arith, numbers_are numbered.number order.numbers, rising_units octets units numbered setup to entries order);
  places_rise = subst IsStrictlyIncreasing (sym (places_are numbered.number order.numbers)) order.rising;
  each = grind (arith, zip_map);
}

-- ---- the law

pub relayed_units : ((boxes : ℕ) → RelayLaw boxes) → StepsInOrder → (boxes : ℕ) → RelayedUnits boxes
relayed_units law order boxes airs meets said legal n bis to within least greatest to_least to_greatest m below first_clean clean =
    let made : List Step = happened airs said in
    let made_legal = happens_legally airs boxes said legal in
    let framed : (setup_of (steps_of_source 1 made)).info.framing ≡ 1 = eqb-true (setup_of (steps_of_source 1 made)).info.framing 1
    (settled airs boxes to made made_legal (had_happened airs to said ∙ has_had n bis to said within)).framed in
    let second = (order airs meets boxes made made_legal 1 m (omega arith) (ungiven m made clean)).in_unit_order to below to_least to_greatest
    framed clean in
    in_first_order (given bis (source_calls (steps_of_source 0 made))) (offered airs n bis to said)
    (offered_numbered order airs meets boxes n bis to said legal within least greatest first_clean) (setup_of (steps_of_source 1 made)) to
    (shown_since (is_made m) airs 1 m to made) (grind (arith, in_relay_order, air_in, steps_of_source, shown_since, is_made))

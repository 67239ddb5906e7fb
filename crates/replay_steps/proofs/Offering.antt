-- Units that relays offer to source 1, by what they make of the sources, of the relays and of the text.
use Rattle.replay_steps.proofs.Prelude.{ℕ, ◌≡◌, ◌≢◌, ◌<◌, ◌≤◌, ◌+◌, List, [], ◌∷◌, ◌++◌, length, map, take, get_or, not, refl, sym, ap, subst, append_assoc, append-nil, arith, eq-eqb, ne_eqb, option_map, slice_get, Option, None, Some, Result, Ok, Err, option_or, map-append, take_all, take_more, flat_map-append, Handed, airs_of, Refusal, Stop, Refused, OutletFault, Memory, Step, Source, Answered, Offer, after_offer, after_offers, answered, offered_of, units_on, valid_on, with_relayed_unit, answer_line, source_refusal, refuse_if, Route, takes_units, chosen_of, steps_of_source, version_of, Relays, RelaysStand, handed_as, handed_of, Answers, Sources, SourcesStand, lent, relay_histories, Drops, GivesSecond, OffersMeet, answer_lines, AudioUnit, UnitLine, LentRoute, octets_of}
use Rattle.scenario_sinks.specs.RelayHistories as pasts
use Rattle.scenario_sinks.specs.declared.gathered.HandedUnit.{HandedUnit}
use Rattle.replay_steps.proofs.Stepping.{or_none}

-- ---- the sources by other steps

-- the same source is chosen, and the same is said of each source
pub record SaySame (one other : List Step) : Type 0 where
  pub chosen : chosen_of one ≡ chosen_of other
  pub first : steps_of_source 0 one ≡ steps_of_source 0 other
  pub second : steps_of_source 1 one ≡ steps_of_source 1 other

pub sources_as : (one other : List Step) (sources : Sources) → SaySame one other → SourcesStand one sources → SourcesStand other sources
sources_as one other sources same stands = grind (arith, slice_get)

-- ---- one unit

abbrev unit_line_of : ℕ → AudioUnit → Step
unit_line_of to unit = UnitLine to (Some unit.time) unit.octets

-- source 1 was chosen, a unit was given, and the source was chosen again that was
pub gives_second : (steps : List Step) (offer : Offer) (to time : ℕ) (octets : List ℕ) (chosen : ℕ) (mid new : Sources) (r : Result (Unit {0}) Stop)
    → offer.route.to ≡ to → offer.unit ≡ record { time = time; octets = octets } → chosen ≡ chosen_of steps
    → Answers (version_of steps) (Source 1 ∷ steps) (UnitLine to (Some time) octets) mid r
    → ((made : List Step) → SourcesStand made mid → SourcesStand (Source chosen ∷ made) new) → GivesSecond steps offer new r
gives_second steps offer to time octets chosen mid new (Ok x) route unit is a back =
    let given : AudioUnit = record { time = time; octets = octets } in
    let S : List Step → Type 0 = λ made. SourcesStand made new in (
      grind (arith, option_or, refuse_if, not, takes_units, steps_of_source, source_refusal, airs_of, version_of, or_none),
      grind (arith, back (unit_line_of to given ∷ Source 1 ∷ steps) a.1),
    )
gives_second steps offer to time octets chosen mid new (Err (Refused reason)) route unit is a back =
    let given : AudioUnit = record { time = time; octets = octets } in (
      grind (arith, option_or, refuse_if, not, takes_units, steps_of_source, source_refusal, airs_of, version_of, or_none),
      sources_as (Source chosen ∷ Source 1 ∷ steps) steps new (record { chosen = is; first = refl; second = refl }) (back (Source 1 ∷ steps) a.1),
    )
gives_second steps offer to time octets chosen mid new (Err OutletFault) route unit is a back = a
gives_second steps offer to time octets chosen mid new (Err Memory) route unit is a back = tt

-- nothing is offered
pub none_offered : (steps : List Step) (offers : List Offer) (sources : Sources) (relays : Relays) (text : List ℕ) → offers ≡ []
    → SourcesStand steps sources → RelaysStand (relay_histories steps) relays → OffersMeet steps offers sources relays text text (Ok tt)
none_offered steps offers sources relays text none s r = grind (arith, append-nil)

-- a unit that is lost isn't offered, nor is one of another stream
pub lost_unit : (n : ℕ) (route : Route) (bis time : ℕ) (octets : Option (List ℕ)) → octets ≡ None
    → offered_of n (Some route) (handed_as bis time octets ∷ []) ≡ []
lost_unit n route bis time octets none = ap (λ o. offered_of n (Some route) (handed_as bis time o ∷ [])) none

pub other_unit : (n : ℕ) (route : Route) (bis time : ℕ) (octets : List ℕ) → bis ≢ route.bis
    → offered_of n (Some route) (handed_as bis time (Some octets) ∷ []) ≡ []
other_unit n route bis time octets other = rw (ne_eqb bis route.bis other) refl

-- the unit of a relay's stream
abbrev pub offer_of : ℕ → Route → ℕ → List ℕ → Offer
offer_of n route time octets = record { sink = n; route = route; unit = record { time = time; octets = octets } }

own_unit : (n : ℕ) (route : Route) (bis time : ℕ) (octets : List ℕ) → bis ≡ route.bis
    → offered_of n (Some route) (handed_as bis time (Some octets) ∷ []) ≡ offer_of n route time octets ∷ []
own_unit n route bis time octets same = rw (eq-eqb bis route.bis same) refl

pub valid_as : (n : ℕ) (own : Route) (unit : HandedUnit) (octets : List ℕ) → octets_of unit ≡ Some octets
    → offered_of n (Some own) (handed_of unit ∷ []) ≡ offered_of n (Some own) (handed_as unit.bis unit.time (Some octets) ∷ [])
valid_as n own unit octets is = ap (λ o. offered_of n (Some own) (handed_as unit.bis unit.time o ∷ [])) is

-- the relays once source 1 was given the unit
pub routes_after_relays : (offer : Offer) (to : ℕ) (steps : List Step) (held : Relays) → offer.route.to ≡ to
    → RelaysStand (pasts.with_relayed_unit to (relay_histories steps)) held → RelaysStand (relay_histories (with_relayed_unit offer steps)) held
routes_after_relays offer to steps held is stands = grind arith

-- source 1 takes the unit
pub offers_taken : (steps : List Step) (n : ℕ) (own : Route) (unit : HandedUnit) (octets : List ℕ) (sources : Sources) (relays : Relays) (text : List ℕ)
    → octets_of unit ≡ Some octets → unit.bis ≡ own.bis → GivesSecond steps (offer_of n own unit.time octets) sources (Ok tt)
    → RelaysStand (relay_histories (with_relayed_unit (offer_of n own unit.time octets) steps)) relays
    → OffersMeet steps (offered_of n (Some own) (handed_of unit ∷ [])) sources relays text text (Ok tt)
offers_taken steps n own unit octets sources relays text is same g r = grind (arith, valid_as, own_unit, append-nil)

-- source 1 doesn't take it, which is told
pub offers_dropped : (steps : List Step) (n bis : ℕ) (own : Route) (unit : HandedUnit) (octets : List ℕ) (reason : Refusal) (sources : Sources) (relays : Relays) (text told : List ℕ)
    (r : Result (Unit {0}) Stop) → octets_of unit ≡ Some octets → unit.bis ≡ own.bis → bis ≡ own.bis
    → GivesSecond steps (offer_of n own unit.time octets) sources (Err (Refused reason))
    → RelaysStand (relay_histories steps) relays → Drops n bis reason text told r
    → OffersMeet steps (offered_of n (Some own) (handed_of unit ∷ [])) sources relays text told r
offers_dropped steps n bis own unit octets reason sources relays text told result is same stream g r line =
    grind (arith, valid_as, own_unit, append-nil)

-- ---- units one behind the other

pub after_append : (xs ys : List Offer) (steps : List Step) → after_offers airs_of (xs ++ ys) steps ≡ after_offers airs_of ys (after_offers airs_of xs steps)
after_append [] ys steps = refl
after_append (x ∷ xs) ys steps = after_append xs ys (after_offer airs_of x steps)

pub answered_append : (xs ys : List Offer) (steps : List Step)
    → answered airs_of (xs ++ ys) steps ≡ answered airs_of xs steps ++ answered airs_of ys (after_offers airs_of xs steps)
answered_append [] ys steps = refl
answered_append (x ∷ xs) ys steps = grind (arith, answered_append xs ys (after_offer airs_of x steps))

pub lines_append : (xs ys : List Answered) → answer_lines (xs ++ ys) ≡ answer_lines xs ++ answer_lines ys
lines_append xs ys = flat_map-append (λ (answer : Answered). answer_line answer.offer answer.reason) xs ys

pub offered_append : (n : ℕ) (own : Route) (us vs : List Handed)
    → offered_of n (Some own) (us ++ vs) ≡ offered_of n (Some own) us ++ offered_of n (Some own) vs
offered_append n own us vs = grind (arith, map, flat_map-append, valid_on, map-append, units_on)

pub offers_then : (steps : List Step) (xs ys : List Offer) (mid new : Sources) (between relays : Relays) (text told told2 : List ℕ) (r : Result (Unit {0}) Stop)
    → OffersMeet steps xs mid between text told (Ok tt) → OffersMeet (after_offers airs_of xs steps) ys new relays told told2 r
    → OffersMeet steps (xs ++ ys) new relays text told2 r
offers_then steps xs ys mid new between relays text told told2 r one two =
    grind (arith, after_append, append_assoc, lines_append, answered_append)

-- one unit more of a sink
pub offers_more : (steps : List Step) (n : ℕ) (own : Route) (units : List HandedUnit) (i : ℕ) (unit : HandedUnit) (mid new : Sources) (between relays : Relays)
    (text told told2 : List ℕ) → i < length units → unit ≡ get_or units i unit
    → OffersMeet steps (offered_of n (Some own) (map handed_of (take i units))) mid between text told (Ok tt)
    → OffersMeet (after_offers airs_of (offered_of n (Some own) (map handed_of (take i units))) steps) (offered_of n (Some own) (handed_of unit ∷ [])) new relays told told2 (Ok tt)
    → OffersMeet steps (offered_of n (Some own) (map handed_of (take (i + 1) units))) new relays text told2 (Ok tt)
offers_more steps n own units i unit mid new between relays text told told2 within is one two =
    let prefix : List Handed = map handed_of (take i units) in
    let same : offered_of n (Some own) (map handed_of (take (i + 1) units))
    ≡ offered_of n (Some own) prefix ++ offered_of n (Some own) (handed_of unit ∷ []) = grind (arith, take_more units i unit within, map-append handed_of (take i units) (unit ∷ []), offered_append n own prefix (handed_of unit ∷ [])) in
    subst (λ all. OffersMeet steps all new relays text told2 (Ok tt)) (sym same)
    (offers_then steps (offered_of n (Some own) prefix) (offered_of n (Some own) (handed_of unit ∷ [])) mid new between relays text told told2 (Ok tt) one two)

-- all units of a sink
pub offers_all : (steps : List Step) (n : ℕ) (own : Route) (units : List HandedUnit) (i : ℕ) (sources : Sources) (relays : Relays) (text told : List ℕ) → length units ≤ i
    → OffersMeet steps (offered_of n (Some own) (map handed_of (take i units))) sources relays text told (Ok tt)
    → OffersMeet steps (offered_of n (Some own) (map handed_of units)) sources relays text told (Ok tt)
offers_all steps n own units i sources relays text told all m =
    subst (λ us. OffersMeet steps (offered_of n (Some own) (map handed_of us)) sources relays text told (Ok tt)) (take_all i units all) m

-- ---- a sink with a relay or none

pub offers_where : (steps : List Step) (n : ℕ) (own : Option Route) (route : LentRoute) (units : List Handed) (sources : Sources) (relays : Relays) (text told : List ℕ)
    (r : Result (Unit {0}) Stop) → Some route ≡ option_map lent own
    → ((one : Route) → route ≡ lent one → OffersMeet steps (offered_of n (Some one) units) sources relays text told r)
    → OffersMeet steps (offered_of n own units) sources relays text told r
offers_where steps n None route units sources relays text told r is each = absurd (cc is)
offers_where steps n (Some one) route units sources relays text told r is each = let same : route ≡ lent one = cc is in each one same

pub offers_nowhere : (steps : List Step) (n : ℕ) (own : Option Route) (units : List Handed) (sources : Sources) (relays : Relays) (text : List ℕ)
    → None ≡ option_map lent own → SourcesStand steps sources → RelaysStand (relay_histories steps) relays
    → OffersMeet steps (offered_of n own units) sources relays text text (Ok tt)
offers_nowhere steps n own units sources relays text is s r = grind (arith, append-nil)

-- What relayed units leave: a step that chooses a source and one that gives source 1 a unit change nothing else.
use Rattle.scenario_laws.proofs.Known.Sources.Steps.Prelude.{◌∙◌, List, [], ◌∷◌, Option, None, Some, append-nil, Step, Refusal, Airs, Offer, after_offer, after_offers, offers_before, with_relayed_unit_unless, with_relayed_units, IsLeft, ℕ, ◌≡◌, ◌==◌, ◌&&◌, cond, Bool, false, ◌++◌, arith, refl, sym, ap, append_assoc, list_any, false≢true, or_parts, map-append, filter-append, accept, accepted, Setup, event, framed_calls, give, timed_accepted, setup_of, source_calls, chosen_of, Answered, dropped_for, offered_to, PassesAtOnce, accepted_on, gives_on, Unit as AudioUnit, FramedCall, SourceCall as Call, answered, passed}

left_then : (airs : Airs) (after_relays between before : List Step) → IsLeft airs after_relays between → IsLeft airs between before
    → IsLeft airs after_relays before
left_then airs after_relays between before later first = record {
  stage = later.stage ∙ first.stage;
  chosen = later.chosen ∙ first.chosen;
  first = later.first ∙ first.first;
  sinks = later.sinks ∙ first.sinks;
  made = λ n. later.made n ∙ first.made n;
  lives = λ n. later.lives n ∙ first.lives n;
  calls = λ n. later.calls n ∙ first.calls n;
  source = λ n. later.source n ∙ first.source n;
  box = λ n. later.box n ∙ first.box n;
  relay = λ n. later.relay n ∙ first.relay n;
  had = λ bis. later.had bis ∙ first.had bis;
  open_second = later.open_second ∙ first.open_second;
  closing_first = later.closing_first ∙ first.closing_first;
  closing_second = later.closing_second ∙ first.closing_second;
  handed = later.handed ∙ first.handed;
}

left_unless : (airs : Airs) (reason : Option Refusal) (offer : Offer) (steps : List Step)
    → IsLeft airs (with_relayed_unit_unless reason offer steps) steps
left_unless airs None offer steps = search append-nil
left_unless airs (Some reason) offer steps = assumption

pub left_by_offers : (airs : Airs) (offers : List Offer) (steps : List Step) → IsLeft airs (after_offers airs offers steps) steps
left_by_offers airs [] steps = assumption
left_by_offers airs (offer ∷ offers) steps = search (left_then, left_unless, left_by_offers airs offers (after_offer airs offer steps))

pub left_by_relayed_units : (airs : Airs) (steps : List Step) (step : Step) → IsLeft airs (with_relayed_units airs steps step) steps
left_by_relayed_units airs steps step = left_by_offers airs (offers_before airs steps step) steps

-- ---- what source 1 accepts on a stream: of the units that are offered to it those that aren't dropped, and of a step that gives it no
-- unit nothing.

-- ---- the units of a stream, of the calls of its source

accept_if : (mine : Bool) (time : ℕ) (octets : List ℕ) (calls others : List FramedCall) → accepted calls ≡ accepted others
    → accepted (cond mine (accept time octets ∷ calls) calls) ≡ accepted (cond mine (accept time octets ∷ others) others)
accept_if mine time octets calls others same = grind arith

pub event_accepts_none : (setup : Setup) (bis : ℕ) (earlier : List Call)
    → accepted (framed_calls setup bis (event ∷ earlier)) ≡ accepted (framed_calls setup bis earlier)
event_accepts_none setup bis earlier = search (timed_accepted)

-- which units were accepted doesn't depend on what fixes the source
units_same : (one other : Setup) (bis : ℕ) (calls : List Call)
    → accepted (framed_calls one bis calls) ≡ accepted (framed_calls other bis calls)
units_same one other bis [] = refl
units_same one other bis (give stream time octets ∷ earlier) = search (accept_if, units_same one other bis earlier)
units_same one other bis (event ∷ earlier) = search (event_accepts_none, units_same one other bis earlier)

abbrev taken : ℕ → List Step → List AudioUnit
taken bis own = accepted (framed_calls (setup_of own) bis (source_calls own))

-- ---- a step of the source that gives it no unit of the stream

own_takes : (bis : ℕ) (step : Step) (own : List Step) → gives_on bis step ≡ false → taken bis (step ∷ own) ≡ taken bis own
own_takes bis this own not = grind (arith, event_accepts_none, units_same)

-- a stream of a source that was given no unit of it accepted none
pub none_taken : (bis : ℕ) (own : List Step) → list_any (gives_on bis) own ≡ false → taken bis own ≡ []
none_taken bis [] none = refl
none_taken bis (step ∷ own) none =
    let parts = or_parts (gives_on bis step) (list_any (gives_on bis) own) none in
    own_takes bis step own parts.0 ∙ none_taken bis own parts.1

-- ---- a step of the scenario that gives source 1 no unit of the stream

abbrev pub gives_to : ℕ → List Step → Step → Bool
gives_to bis earlier step = (chosen_of earlier == 1) && gives_on bis step

pub step_takes : (bis : ℕ) (step : Step) (earlier : List Step) → gives_to bis earlier step ≡ false
    → accepted_on bis (step ∷ earlier) ≡ accepted_on bis earlier
step_takes bis this earlier not = grind (arith, own_takes, false≢true)

-- ---- units that are offered

pub passed_append : (to : ℕ) (one other : List Answered)
    → passed (offered_to to (one ++ other)) ≡ passed (offered_to to one) ++ passed (offered_to to other)
passed_append to one other = search (filter-append, map-append)

pub all_pass : (airs : Airs) (to : ℕ) (offers : List Offer) (made : List Step)
    → accepted_on to (after_offers airs offers made) ≡ accepted_on to made ++ passed (offered_to to (answered airs offers made))
all_pass airs to [] made = sym (append-nil (accepted_on to made))
all_pass airs to (offer ∷ offers) made =
    let reason = dropped_for airs offer made in
    let next = after_offer airs offer made in
    let one : List Answered = record { offer = offer; reason = reason } ∷ [] in
    let others = answered airs offers next in
    all_pass airs to offers next ∙ ap (λ units. units ++ passed (offered_to to others)) (grind (arith, append-nil))
    ∙ append_assoc (accepted_on to made) (passed (offered_to to one)) (passed (offered_to to others))
    ∙ ap (λ units. accepted_on to made ++ units) (sym (passed_append to one others))

pub passes_at_once : PassesAtOnce
passes_at_once airs made step to = all_pass airs to (offers_before airs made step) made

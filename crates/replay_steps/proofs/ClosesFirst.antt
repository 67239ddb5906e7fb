-- A step that closes the open event of source 0, by what the close of each sink made of the components.
use Rattle.replay_steps.proofs.Prelude.{ℕ, ◌≡◌, ◌==◌, cond, false, List, ◌∷◌, ◌++◌, refl, sym, ◌∙◌, ap, subst, Option, None, Some, range_with_len, Account, airs_of, Step, SinkUnit, closing, handed_by, Answered, Offer, after_offers, answered, answered_by, closes_first, offered_of, offers_at, with_relayed_units, close_lines, output_of, is_of, ticked_if, open_event, chosen_of, chosen_steps, steps_of_source, left_by_offers, flat_same, closing_of, handed_all, Histories, with_close, SinksStand, Sinks, stands_same, RelaysStand, SourcesStand, Machine, ComponentsStand, Stands, histories_of, relay_histories, lines_below, offers_below, offers_of, stage_in, arith, [], not, option_map, list_any, option_or, Refusal, after_offer, dropped_for, with_relayed_unit_unless, gives_on, source_refusal, refuse_if, relay_given, relays_to, takes_units, chosen_given, is_of_source, stage_of, version_of, Relays, Sources, lent}
use Rattle.replay_steps.proofs.CloseLines.{first_printed, lines_closed, offers_closed, offers_same, units_are, units_closed}
use Rattle.replay_steps.proofs.Stepping.{GoesOn, minds_relays, relays_as}
use Rattle.replay_steps.proofs.Offering.{SaySame, sources_as}

-- the step means the chosen source, and says nothing of the scenario and of relays
pub record MeansOne (made : Step) : Type 0 where
  pub line : (s : ℕ) (steps : List Step) → is_of_source s steps made ≡ (chosen_of steps == s)
  pub chooses : chosen_given made ≡ None
  pub goes_on : (steps : List Step) → stage_of (made ∷ steps) ≡ stage_of steps
  pub gives : (n : ℕ) → relay_given n made ≡ None
  pub relays : (bis : ℕ) → relays_to bis made ≡ false

-- steps behind which the step of source 0 stands, and those before which it was made
record Apart (made : Step) (late early : List Step) : Type 0 where
  chosen : chosen_of late ≡ 0
  version : version_of early ≡ version_of late
  same : SaySame early (made ∷ late)
  second : steps_of_source 1 early ≡ steps_of_source 1 late

apart_first : (made : Step) (steps : List Step) → MeansOne made → chosen_of steps ≡ 0 → Apart made steps (made ∷ steps)
apart_first made steps means is = grind arith

dropped_same : (made : Step) (late early : List Step) (offer : Offer) → Apart made late early → dropped_for airs_of offer early ≡ dropped_for airs_of offer late
dropped_same made late early offer apart = grind (arith, option_or, refuse_if, not, takes_units, source_refusal, airs_of)

apart_unless : (made : Step) (late early : List Step) (offer : Offer) (reason : Option Refusal) → MeansOne made → Apart made late early
    → Apart made (with_relayed_unit_unless reason offer late) (with_relayed_unit_unless reason offer early)
apart_unless made late early offer reason means apart = grind arith

apart_offer : (made : Step) (late early : List Step) (offer : Offer) → MeansOne made → Apart made late early
    → Apart made (after_offer airs_of offer late) (after_offer airs_of offer early)
apart_offer made late early offer means apart =
    grind (arith, dropped_same made late early offer apart, apart_unless made late early offer (dropped_for airs_of offer late) means apart)

apart_offers : (made : Step) (late early : List Step) (offers : List Offer) → MeansOne made → Apart made late early
    → Apart made (after_offers airs_of offers late) (after_offers airs_of offers early)
apart_offers made late early [] means apart = apart
apart_offers made late early (offer ∷ offers) means apart =
    apart_offers made (after_offer airs_of offer late) (after_offer airs_of offer early) offers means (apart_offer made late early offer means apart)

answers_apart : (made : Step) (late early : List Step) (offers : List Offer) → MeansOne made → Apart made late early
    → answered airs_of offers early ≡ answered airs_of offers late
answers_apart made late early [] means apart = refl
answers_apart made late early (offer ∷ offers) means apart =
    let after = apart_offer made late early offer means apart in
    grind (arith, answers_apart made (after_offer airs_of offer late) (after_offer airs_of offer early) offers means after)

-- ---- what is answered, and what the components stand for

pub same_answers : (made : Step) (steps : List Step) (offers : List Offer) → MeansOne made → chosen_of steps ≡ 0
    → answered airs_of offers (made ∷ steps) ≡ answered airs_of offers steps
same_answers made steps offers means is = answers_apart made steps (made ∷ steps) offers means (apart_first made steps means is)

pub same_answers_after : (made : Step) (steps : List Step) (before offers : List Offer) → MeansOne made → chosen_of steps ≡ 0
    → answered airs_of offers (after_offers airs_of before (made ∷ steps)) ≡ answered airs_of offers (after_offers airs_of before steps)
same_answers_after made steps before offers means is =
    answers_apart made (after_offers airs_of before steps) (after_offers airs_of before (made ∷ steps)) offers means
    (apart_offers made steps (made ∷ steps) before means (apart_first made steps means is))

same_said : (made : Step) (steps : List Step) (offers : List Offer) → MeansOne made → chosen_of steps ≡ 0
    → SaySame (after_offers airs_of offers (made ∷ steps)) (made ∷ after_offers airs_of offers steps)
same_said made steps offers means is = (apart_offers made steps (made ∷ steps) offers means (apart_first made steps means is)).same

pub sources_behind : (made : Step) (steps : List Step) (offers : List Offer) (sources : Sources) → MeansOne made → chosen_of steps ≡ 0
    → SourcesStand (after_offers airs_of offers (made ∷ steps)) sources → SourcesStand (made ∷ after_offers airs_of offers steps) sources
sources_behind made steps offers sources means is stands =
    sources_as (after_offers airs_of offers (made ∷ steps)) (made ∷ after_offers airs_of offers steps) sources (same_said made steps offers means is) stands

pub relays_behind : (made : Step) (steps : List Step) (offers : List Offer) (held : Relays) → MeansOne made → chosen_of steps ≡ 0
    → RelaysStand (relay_histories (after_offers airs_of offers (made ∷ steps))) held → RelaysStand (relay_histories (made ∷ after_offers airs_of offers steps)) held
relays_behind made steps offers held means is stands =
    let late : List Step = after_offers airs_of offers steps in
    let left = left_by_offers airs_of offers steps in
    let before = left_by_offers airs_of offers (made ∷ steps) in
    relays_as (relay_histories (after_offers airs_of offers (made ∷ steps))) (relay_histories (made ∷ late)) held
    (λ n. ap (option_map lent) (before.relay n ∙ rw (means.gives n) (sym (left.relay n))))
    (λ bis. before.had bis ∙ rw (means.relays bis) (sym (left.had bis)))
    (λ bis. ap (list_any (gives_on bis)) (same_said made steps offers means is).second) stands

-- the step closes the open event of the chosen source, and prints more behind the lines of the close
pub record ClosesOpen (made : Step) (tail : List Step → List ℕ) : Type 0 where
  pub means : MeansOne made
  pub on : GoesOn made
  pub minds : minds_relays made ≡ false
  pub first : (steps : List Step) → closes_first steps made ≡ (chosen_of steps == 0)
  pub past : (steps : List Step) → histories_of (made ∷ steps) ≡ with_close (chosen_of steps) (open_event (chosen_steps steps)) (histories_of steps)
  pub handed : (steps : List Step) → handed_by airs_of steps made ≡ closing airs_of (chosen_of steps) steps
  pub output : (starts : List Account) (steps : List Step) → output_of airs_of starts steps made ≡ close_lines airs_of steps made ++ tail steps

-- what the close hands up, what becomes of what relays offer of it, and what it prints
pub record CloseSays (steps : List Step) (made : Step) (units : List SinkUnit) (answers : List Answered) (lines : List ℕ) : Type 0 where
  pub units_are : handed_by airs_of steps made ≡ units
  pub answers_are : answered_by airs_of steps made ≡ answers
  pub lines_are : close_lines airs_of steps made ≡ lines

-- ---- the same offers and the same lines behind the step

offers_behind : (made : Step) (steps : List Step) (past : Histories) (event n : ℕ) → MeansOne made → offers_of (made ∷ steps) past n event ≡ offers_of steps past n event
offers_behind made steps past event n means = grind (arith, offered_of, handed_all, closing_of)

all_behind : (made : Step) (steps : List Step) (past : Histories) (event number : ℕ) → MeansOne made → offers_below (made ∷ steps) past event number ≡ offers_below steps past event number
all_behind made steps past event number means = grind (arith, flat_same, offers_of, range_with_len, offers_behind)

lines_behind : (made : Step) (steps : List Step) (past : Histories) (event number : ℕ) → MeansOne made → chosen_of steps ≡ 0
    → lines_below (made ∷ steps) past event number ≡ lines_below steps past event number
lines_behind made steps past event number means is = grind (arith, flat_same, offers_behind, all_behind, same_answers_after)

offers_past : (made : Step) (steps : List Step) (past : Histories) (closed : Option ℕ) → MeansOne made → offers_closed (made ∷ steps) past closed ≡ offers_closed steps past closed
offers_past made steps past None means = refl
offers_past made steps past (Some event) means = all_behind made steps past event 8 means

lines_past : (made : Step) (steps : List Step) (past : Histories) (closed : Option ℕ) → MeansOne made → chosen_of steps ≡ 0
    → lines_closed (made ∷ steps) past closed ≡ lines_closed steps past closed
lines_past made steps past None means is = refl
lines_past made steps past (Some event) means is = lines_behind made steps past event 8 means is

-- ---- what is handed up, offered and printed

relayed_units_are : (made : Step) (tail : List Step → List ℕ) (steps : List Step) → ClosesOpen made tail → chosen_of steps ≡ 0
    → with_relayed_units airs_of steps made ≡ after_offers airs_of (offers_at airs_of steps) steps
relayed_units_are made tail steps closes is = grind (arith, after_offers, airs_of, cond, offers_at)

answers_are : (made : Step) (tail : List Step → List ℕ) (steps : List Step) → ClosesOpen made tail → chosen_of steps ≡ 0
    → answered_by airs_of steps made ≡ answered airs_of (offers_at airs_of steps) steps
answers_are made tail steps closes is = grind (arith, answered, airs_of, cond, offers_at)

open_first : (steps : List Step) (closed : Option ℕ) → chosen_of steps ≡ 0 → closed ≡ open_event (chosen_steps steps) → closed ≡ open_event (steps_of_source 0 steps)
open_first steps closed is closing_it = closing_it ∙ ap (λ c. open_event (steps_of_source c steps)) is

pub first_says : (made : Step) (tail : List Step → List ℕ) (steps : List Step) (closed : Option ℕ) → ClosesOpen made tail → chosen_of steps ≡ 0
    → closed ≡ open_event (chosen_steps steps)
    → CloseSays steps made (units_closed (histories_of steps) closed) (answered airs_of (offers_closed (made ∷ steps) (histories_of steps) closed) (made ∷ steps))
    (lines_closed (made ∷ steps) (histories_of steps) closed)
first_says made tail steps closed closes is open_is =
    grind (arith, open_first, units_are, answers_are, offers_same, offers_past, same_answers, first_printed, lines_past)

-- ---- the machine then

-- the sinks by the step and the relayed units before it
sinks_behind : (made : Step) (tail : List Step → List ℕ) (steps : List Step) (offers : List Offer) (closed : Option ℕ) (sinks : Sinks) → ClosesOpen made tail → chosen_of steps ≡ 0
    → closed ≡ open_event (steps_of_source 0 steps) → SinksStand (with_close 0 closed (histories_of steps)) sinks
    → SinksStand (histories_of (made ∷ after_offers airs_of offers steps)) sinks
sinks_behind made tail steps offers closed sinks closes is open_is stands =
    let late : List Step = after_offers airs_of offers steps in
    let left = left_by_offers airs_of offers steps in
    let chosen : chosen_of late ≡ 0 = left.chosen ∙ is in
    let still : open_event (chosen_steps late) ≡ closed =
    ap (λ c. open_event (steps_of_source c late)) chosen ∙ ap open_event left.first ∙ sym open_is in
    subst (λ (p : Histories). SinksStand p sinks) (sym (closes.past late))
    (grind (arith, with_close, open_event, chosen_steps, histories_of, stands_same, ticked_if, is_of))

pub first_stands : (made : Step) (tail : List Step → List ℕ) (steps : List Step) (closed : Option ℕ) (old new : Machine)
    → ClosesOpen made tail → Stands steps old → chosen_of steps ≡ 0 → closed ≡ open_event (chosen_steps steps) → new.stage ≡ old.stage
    → ComponentsStand (after_offers airs_of (offers_closed (made ∷ steps) (histories_of steps) closed) (made ∷ steps))
    (with_close 0 closed (histories_of steps)) new → Stands (made ∷ with_relayed_units airs_of steps made) new
first_stands made tail steps closed old new closes stands is open_is stage components =
    let own : closed ≡ open_event (steps_of_source 0 steps) = open_first steps closed is open_is in
    let offers : List Offer = offers_at airs_of steps in
    let all : offers_closed (made ∷ steps) (histories_of steps) closed ≡ offers =
    offers_past made steps (histories_of steps) closed closes.means ∙ sym (offers_same steps closed own) in
    let late : List Step = after_offers airs_of offers steps in
    subst (λ before_it. Stands (made ∷ before_it) new) (sym (relayed_units_are made tail steps closes is)) (record {
      stage = ap stage_in stage ∙ stands.stage ∙ sym (left_by_offers airs_of offers steps).stage ∙ sym (closes.means.goes_on late);
      sources = sources_behind made steps offers new.sources closes.means is
          (subst (λ o. SourcesStand (after_offers airs_of o (made ∷ steps)) new.sources) all components.sources);
      sinks = sinks_behind made tail steps offers closed new.sinks closes is own components.sinks;
      relays = relays_behind made steps offers new.relays closes.means is
          (subst (λ o. RelaysStand (relay_histories (after_offers airs_of o (made ∷ steps))) new.relays) all components.relays);
    })

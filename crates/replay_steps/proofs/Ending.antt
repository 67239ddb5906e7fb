-- The sums of the boxes, and the end of a scenario.
use Rattle.replay_steps.proofs.Prelude.{◌≡◌, ℕ, ◌≤◌, false, is_over, Histories, Result, List, [], ◌∷◌, ◌++◌, length, ne_eqb, refl, sym, ◌∙◌, ap, subst, append-nil, append_assoc, arith, Option, None, Some, Ok, Err, flat_map, range_with_len, Account, airs_of, Call, sum_line, Stop, Memory, Step, Drop, End, over, running, sinks_made, stage_after, stage_of, steps_of_source, open_event, is_of, sink_calls, source_of, ticked_if, SinkUnit, account_at, accounts_after, box_of, closing, closing_both, closing_by, handed_up, valid_for, Answered, Offer, after_offers, answered, answered_by, with_relayed_units, first_lines, sum_if, sums_of, unit_lines, box_was_made, octets_add_up, units_add_up, left_by_offers, flat_same, drop_says, end_says, sources_stay, Sinks, closings_at, with_close, without, SinksStand, accounts_append, stands_same, Machine, RelaysStand, Stands, histories_of, relay_histories, BoxesStand, Meets, Tells, phase_line, Closes, ComponentsStand, stage_in, sink_numbers, not_living}
use Rattle.scenario_laws.specs.RelayedUnits.Laws.{IsLeft}
use Rattle.scenario_sinks.specs.Refusals as sinks
use Rattle.scenario_sinks.specs.Sums.{Puts, sum_where, sums_where}
use Rattle.replay_steps.proofs.BoxStops.{AreFrom, from_closings}
use Rattle.replay_steps.proofs.Closed.{Did, first_did, second_did, stops_meet}
use Rattle.replay_steps.proofs.CloseLines.{first_printed, lines_closed, offers_closed, offers_same, units_are, units_closed}
use Rattle.replay_steps.proofs.Closing.{closing_is, not_over}
use Rattle.replay_steps.proofs.Stepping.{relays_stay}

-- ---- the sums of a box as they stand are those at the start and what was handed to it

sum_same : (starts : List Account) (steps : List Step) (units : List SinkUnit) (n : ℕ) (box : Option ℕ) → box_of n steps ≡ box → sinks_made steps ≤ length starts
    → sum_where (accounts_after starts units) n box ≡ sum_if starts units n box
sum_same starts steps units n box is room =
    grind (arith, sinks_made, box_was_made, sum_line, account_at, accounts_after, units_add_up, length, valid_for, octets_add_up)

sums_same : (starts : List Account) (steps : List Step) (units : List SinkUnit) (numbers : List ℕ) → sinks_made steps ≤ length starts
    → sums_where (accounts_after starts units) (λ n. box_of n steps) numbers ≡ flat_map (λ n. sum_if starts units n (box_of n steps)) numbers
sums_same starts steps units [] room = refl
sums_same starts steps units (n ∷ numbers) room = grind (arith, accounts_after, box_of, sum_same, sum_if)

-- ---- drop

pub drop_ends : (starts accounts : List Account) (version n : ℕ) (steps : List Step) (old new : Machine) (text told : List ℕ) → Stands steps old
    → stage_of steps ≡ running version → BoxesStand starts steps accounts → new.stage ≡ old.stage → new.sources ≡ old.sources
    → RelaysStand (relay_histories (Drop n ∷ steps)) new.relays
    → sinks.Answers (not_living (box_of n steps)) (histories_of steps) (without n (histories_of steps)) new.sinks (Ok tt) → Puts (sum_where accounts n (box_of n steps)) text told (Ok tt)
    → Tells starts steps (Drop n) new text told (Ok tt)
drop_ends starts accounts version n steps old new text told stands e boxes stage same held a p =
    grind (arith, sources_stay, drop_says, sum_same)

-- ---- end: a close of source 0 leaves the sinks of source 1

no_other : (own : Option ℕ) (event n : ℕ) (first : Option ℕ) (calls : List Call) (box : Option ℕ)
    → closing_by 1 event n (ticked_if (is_of 0 own) first calls) own box ≡ closing_by 1 event n calls own box
no_other own event n first calls box = grind (arith, ne_eqb)

-- the events that are open as the scenario ends
pub record Opens (steps : List Step) (first second : Option ℕ) : Type 0 where
  pub one : first ≡ open_event (steps_of_source 0 steps)
  pub two : second ≡ open_event (steps_of_source 1 steps)

pub opens_at : {version : ℕ} {steps : List Step} {first second : Option ℕ} → stage_of steps ≡ running version
    → (is_over (steps_of_source 0 steps) ≡ false → first ≡ open_event (steps_of_source 0 steps))
    → (is_over (steps_of_source 1 steps) ≡ false → second ≡ open_event (steps_of_source 1 steps)) → Opens steps first second
opens_at {version} {steps} e one two = record { one = one (not_over 0 version steps e); two = two (not_over 1 version steps e) }

-- the steps with the relayed units of the close of source 0
abbrev pub after_relays : List Step → Option ℕ → List Step
after_relays steps first = after_offers airs_of (offers_closed steps (histories_of steps) first) steps

second_units : (steps : List Step) (first second : Option ℕ) → Opens steps first second
    → closings_at 1 second (with_close 0 first (histories_of steps)) ≡ closing airs_of 1 steps
second_units steps first second opens =
    grind (arith, flat_same, closing_by, ticked_if, is_of, source_of, sink_calls, airs_of, box_of, no_other, closing_is)

end_offers : (steps : List Step) (first second : Option ℕ) → Opens steps first second → answered_by airs_of steps End ≡ answered airs_of (offers_closed steps (histories_of steps) first) steps
end_offers steps first second opens = ap (λ offers. answered airs_of offers steps) (offers_same steps first opens.one)

end_lines : (steps : List Step) (first second : Option ℕ) → Opens steps first second
    → first_lines (closing airs_of 0 steps) (answered_by airs_of steps End) ≡ lines_closed steps (histories_of steps) first
end_lines steps first second opens = first_printed steps first opens.one

from_closed : (steps : List Step) (first : Option ℕ) → AreFrom 0 (units_closed (histories_of steps) first)
from_closed steps None = tt
from_closed steps (Some event) = from_closings 0 event (histories_of steps) (range_with_len 0 8)

from_first : (steps : List Step) (first second : Option ℕ) → Opens steps first second → AreFrom 0 (closing airs_of 0 steps)
from_first steps first second opens = subst (AreFrom 0) (sym (units_are steps first opens.one)) (from_closed steps first)

end_passes : (boxes version : ℕ) (steps : List Step) → stage_of steps ≡ running version → phase_line airs_of boxes steps End ≡ None
end_passes boxes version steps e = rw e refl

-- the sums, behind all lines
abbrev end_sums : List Account → List Step → List ℕ
end_sums starts steps = sums_of starts (handed_up airs_of steps ++ closing_both airs_of steps) steps

-- a box stopped the close of source 0, or memory ran out
pub first_stops : (starts : List Account) (version : ℕ) (steps : List Step) (first second : Option ℕ) (new : Machine) (text told : List ℕ)
    (before after : List Account) (stop : Stop)
    → stage_of steps ≡ running version → Opens steps first second → Closes steps (histories_of steps) 0 first new text told before after (Err stop)
    → Meets starts steps End new text told before after (Err stop)
first_stops starts version steps first second new text told before after stop e opens c =
    stops_meet starts steps End new _ (closing airs_of 1 steps) _ _
    (unit_lines (closing airs_of 1 steps) ++ end_sums starts steps) text told before after stop
    (end_passes (length starts) version steps e) (ap (λ us. us ++ closing airs_of 1 steps) (units_are steps first opens.one))
    (end_offers steps first second opens)
    (ap (λ l. l ++ (unit_lines (closing airs_of 1 steps) ++ end_sums starts steps)) (end_lines steps first second opens))
    (first_did steps (histories_of steps) first new text told before after (Err stop) c)

-- source 0 was closed, and then the close of source 1 is called
abbrev pub BothDid : List Step → (first second : Option ℕ) → Machine → (text told : List ℕ) → (before after : List Account)
    → Result (Unit {0}) Stop → Type 0
BothDid steps first second new text told before after r =
    Did (closing_both airs_of steps) (answered_by airs_of steps End)
    (first_lines (closing airs_of 0 steps) (answered_by airs_of steps End) ++ unit_lines (closing airs_of 1 steps))
    (ComponentsStand (after_relays steps first) (with_close 1 second (with_close 0 first (histories_of steps))) new)
    text told before after r

pub both_did : (steps : List Step) (first second : Option ℕ) (mid new : Machine) (text told last : List ℕ)
    (before between after : List Account) (r : Result (Unit {0}) Stop)
    → Opens steps first second → Closes steps (histories_of steps) 0 first mid text told before between (Ok tt)
    → ((late : List Step) (past : Histories) → ComponentsStand late past mid → Closes late past 1 second new told last between after r)
    → BothDid steps first second new text last before after r
both_did steps first second mid new text told last before between after r opens c closes =
    let one = first_did steps (histories_of steps) first mid text told before between (Ok tt) c in
    let ones : List SinkUnit = closing airs_of 0 steps in
    let answers : List Answered = answered_by airs_of steps End in
    let left : Histories = with_close 0 first (histories_of steps) in
    let stands : Type 0 = ComponentsStand (after_relays steps first) (with_close 1 second left) new in
    subst (λ us. Did (ones ++ us) answers (first_lines ones answers ++ unit_lines us) stands text last before after r) (second_units steps first second opens)
    (second_did (after_relays steps first) left second ones answers new text told last before between after r
    (from_first steps first second opens) (one.2 ∙ ap (λ l. text ++ l) (sym (end_lines steps first second opens)))
    (one.3 ∙ ap (accounts_after before) (sym (units_are steps first opens.one))) (closes (after_relays steps first) left one.1))

pub second_stops : (starts : List Account) (version : ℕ) (steps : List Step) (first second : Option ℕ) (new : Machine) (text last : List ℕ)
    (before after : List Account) (stop : Stop)
    → stage_of steps ≡ running version → BothDid steps first second new text last before after (Err stop)
    → Meets starts steps End new text last before after (Err stop)
second_stops starts version steps first second new text last before after stop e d =
    grind (arith, stops_meet, end_passes, append-nil, append_assoc)

-- memory ran out as the sums were put
pub sums_stop : (starts : List Account) (version : ℕ) (steps : List Step) (first second : Option ℕ) (new : Machine) (text told : List ℕ)
    (before after : List Account) → stage_of steps ≡ running version → BothDid steps first second new text told before after (Ok tt)
    → Meets starts steps End new text told before after (Err Memory)
sums_stop starts version steps first second new text told before after e d = grind (arith, end_passes, append-nil)

end_sinks : (steps late : List Step) (first second : Option ℕ) (offers : List Offer) (sinks : Sinks) → late ≡ after_offers airs_of offers steps → Opens steps first second
    → SinksStand (with_close 1 second (with_close 0 first (histories_of steps))) sinks → SinksStand (histories_of (End ∷ late)) sinks
end_sinks steps late first second offers sinks is opens stands =
    let left = subst (λ made. IsLeft airs_of made steps) (sym is) (left_by_offers airs_of offers steps) in
    let one : first ≡ open_event (steps_of_source 0 late) = opens.one ∙ sym (ap open_event left.first) in
    let two : second ≡ open_event (steps_of_source 1 late) = opens.two ∙ sym left.open_second in
    stands_same (with_close 1 second (with_close 0 first (histories_of steps))) (histories_of (End ∷ late)) sinks
    (grind (arith, ticked_if, is_of, source_of, sink_calls, airs_of)) stands

end_stands : (version : ℕ) (steps : List Step) (first second : Option ℕ) (new : Machine) → stage_of steps ≡ running version → Opens steps first second
    → stage_in new.stage ≡ over version → ComponentsStand (after_relays steps first) (with_close 1 second (with_close 0 first (histories_of steps))) new
    → Stands (End ∷ with_relayed_units airs_of steps End) new
end_stands version steps first second new e opens stage components =
    let offers : List Offer = offers_closed steps (histories_of steps) first in
    let late : List Step = after_relays steps first in
    let same : with_relayed_units airs_of steps End ≡ late = ap (λ all. after_offers airs_of all steps) (offers_same steps first opens.one) in
    subst (λ made. Stands (End ∷ made) new) (sym same) (record {
      stage = stage ∙ sym (ap (stage_after End) ((left_by_offers airs_of offers steps).stage ∙ e));
      sources = sources_stay End late new.sources end_says components.sources;
      sinks = end_sinks steps late first second offers new.sinks refl opens components.sinks;
      relays = relays_stay late End new.relays refl components.relays;
    })

pub end_meets : (starts : List Account) (version : ℕ) (steps : List Step) (first second : Option ℕ) (new : Machine) (text told last : List ℕ) (before after : List Account)
    → stage_of steps ≡ running version → BoxesStand starts steps before → Opens steps first second → stage_in new.stage ≡ over version
    → BothDid steps first second new text told before after (Ok tt) → last ≡ told ++ sums_where after (λ n. box_of n steps) sink_numbers
    → Meets starts steps End new text last before after (Ok tt)
end_meets starts version steps first second new text told last before after e boxes opens stage c sums =
    let lines : List ℕ = first_lines (closing airs_of 0 steps) (answered_by airs_of steps End) in
    let more : List ℕ = unit_lines (closing airs_of 1 steps) in
    let accounts : after ≡ accounts_after starts (handed_up airs_of steps ++ closing_both airs_of steps) =
    c.3 ∙ ap (λ a. accounts_after a (closing_both airs_of steps)) boxes.accounts_are
    ∙ sym (accounts_append (handed_up airs_of steps) (closing_both airs_of steps) starts) in
    let puts : sums_where after (λ n. box_of n steps) sink_numbers ≡ end_sums starts steps = grind (arith, sums_same starts steps (handed_up airs_of steps ++ closing_both airs_of steps) sink_numbers boxes.room) in (
      end_passes (length starts) version steps e,
      end_stands version steps first second new e opens stage c.1,
      grind (arith, c.2, append_assoc text (lines ++ more) (end_sums starts steps), append_assoc lines more (end_sums starts steps)),
      c.3,
    )

-- Closing an event of source 0 for one sink after the other.
use Rattle.replay_steps.proofs.Prelude.{ℕ, ◌≡◌, ◌<◌, ◌+◌, ◌-◌, cond, List, [], ◌++◌, refl, sym, ◌∙◌, ap, ap₂, subst, arith, append_assoc, append-nil, le-ltb, lt-ltb, slice_get, Some, Ok, Err, flat_map, range_with_len, flat_map-append, Account, airs_of, Stop, Refused, OutletFault, Memory, Step, SinkUnit, accounts_after, closing_by, Offer, after_offers, answered, offered_of, unit_lines, is_of, ticked_if, left_by_offers, closing_of, handed_all, CutShort, Histories, with_close, with_close_at, SinksStand, UnassignedSame, Sinks, accounts_append, hands_stop, hands_then, RelaysStand, SourcesStand, Machine, FirstBetween, with_closes_below, relay_histories, FirstMeets, ComponentsStand, SinkMeets, answer_lines, lines_at, lines_below, offers_below, offers_of, units_below, Result, Handed, relay_of, ClosesAt, Sources, Relays, OffersMeet}
use Rattle.scenario_sinks.proofs.Ranges.{range_append}
use Rattle.replay_steps.proofs.Offering.{after_append}

-- ---- ranges

pub range_more : {A : Type 0} (f : ℕ → List A) (n : ℕ) → flat_map f (range_with_len 0 (n + 1)) ≡ flat_map f (range_with_len 0 n) ++ f n
range_more f n = grind (arith, flat_map, range_append, flat_map-append, range_with_len, append-nil)

pub range_split : {A : Type 0} (f : ℕ → List A) (n k : ℕ) → n + k ≡ 8
    → flat_map f (range_with_len 0 8) ≡ flat_map f (range_with_len 0 n) ++ flat_map f (range_with_len n k)
range_split f n k all =
    let start : 0 + n ≡ n = omega arith in
    ap (λ m. flat_map f (range_with_len 0 m)) (sym all) ∙ ap (flat_map f) (range_append 0 n k)
    ∙ flat_map-append f (range_with_len 0 n) (range_with_len (0 + n) k)
    ∙ ap (λ m. flat_map f (range_with_len 0 n) ++ flat_map f (range_with_len m k)) start

-- all eight, about one
pub range_about : {A : Type 0} (f : ℕ → List A) (n : ℕ) → n < 8
    → flat_map f (range_with_len 0 8) ≡ (flat_map f (range_with_len 0 n) ++ f n) ++ flat_map f (range_with_len (n + 1) (7 - n))
range_about f n below =
    let all : n + 1 + (7 - n) ≡ 8 = omega arith in
    range_split f (n + 1) (7 - n) all ∙ ap (λ prefix. prefix ++ flat_map f (range_with_len (n + 1) (7 - n))) (range_more f n)

-- ---- the past of the sinks

-- the next sink didn't close the event yet
pub not_yet : (past : Histories) (event n : ℕ) → closing_of n 0 event (with_closes_below event n past) ≡ closing_of n 0 event past
not_yet past event n = grind (arith, closing_by, cond, ticked_if, is_of, le-ltb)

-- and then it did
closed_next : (past : Histories) (event n : ℕ) (sinks : Sinks) → SinksStand (with_close_at n 0 event (with_closes_below event n past)) sinks
    → SinksStand (with_closes_below event (n + 1) past) sinks
closed_next past event n sinks stands = grind arith

-- all of them did
closed_all : (past : Histories) (event : ℕ) (sinks : Sinks) → SinksStand (with_closes_below event 8 past) sinks → SinksStand (with_close 0 (Some event) past) sinks
closed_all past event sinks stands = grind (arith, slice_get, cond, ticked_if, is_of, lt-ltb)

-- ---- the loop

pub between_starts : (steps : List Step) (past : Histories) (event : ℕ) (machine : Machine) (text : List ℕ) (before : List Account) → ComponentsStand steps past machine
    → FirstBetween steps past event 0 machine text text before before
between_starts steps past event machine text before components = grind (arith, append-nil)

-- what the next sink offers is what it offers by the steps before the relayed units of those below it
offers_now : (steps : List Step) (past : Histories) (event n : ℕ)
    → offers_of (after_offers airs_of (offers_below steps past event n) steps) (with_closes_below event n past) n event ≡ offers_of steps past n event
offers_now steps past event n =
    ap₂ (λ relay (units : List SinkUnit). offered_of n relay (handed_all units)) ((left_by_offers airs_of (offers_below steps past event n) steps).relay n) (not_yet past event n)

after_next : (steps : List Step) (past : Histories) (event n : ℕ)
    → after_offers airs_of (offers_of steps past n event) (after_offers airs_of (offers_below steps past event n) steps)
    ≡ after_offers airs_of (offers_below steps past event (n + 1)) steps
after_next steps past event n = grind (arith, after_offers, airs_of, range_more, offers_of, after_append, offers_below)

pub between_next : (steps : List Step) (past : Histories) (event n : ℕ) (mid new : Machine) (text told told2 : List ℕ) (before between after : List Account)
    → FirstBetween steps past event n mid text told before between
    → SinkMeets (after_offers airs_of (offers_below steps past event n) steps) (with_closes_below event n past) n event new told told2 between after (Ok tt)
    → FirstBetween steps past event (n + 1) new text told2 before after
between_next steps past event n mid new text told told2 before between after b m =
    let now : List Step = after_offers airs_of (offers_below steps past event n) steps in
    let late : Histories = with_closes_below event n past in
    let all : after_offers airs_of (offers_of now late n event) now ≡ after_offers airs_of (offers_below steps past event (n + 1)) steps =
    ap (λ offers. after_offers airs_of offers now) (offers_now steps past event n) ∙ after_next steps past event n in
    record {
      components = record {
        sources = subst (λ made. SourcesStand made new.sources) all m.0.sources;
        sinks = closed_next past event n new.sinks m.0.sinks;
        relays = subst (λ made. RelaysStand (relay_histories made) new.relays) all m.0.relays;
      };
      lines = m.1
          ∙ ap₂ (λ (units : List SinkUnit) (offers : List Offer). told ++ (unit_lines units ++ answer_lines (answered airs_of offers now))) (not_yet past event n)
          (offers_now steps past event n) ∙ ap (λ prefix. prefix ++ lines_at steps past n event) b.lines
          ∙ append_assoc text (lines_below steps past event n) (lines_at steps past n event)
          ∙ ap (λ l. text ++ l) (sym (range_more (λ m. lines_at steps past m event) n));
      boxes = m.2 ∙ ap₂ (λ accounts (units : List SinkUnit). accounts_after accounts units) b.boxes (not_yet past event n)
          ∙ sym (accounts_append (units_below past event n) (closing_of n 0 event past) before)
          ∙ ap (accounts_after before) (sym (range_more (λ m. closing_of m 0 event past) n));
    }

-- a box refused a unit of a sink, or memory ran out
pub between_stops : (steps : List Step) (past : Histories) (event n : ℕ) (mid new there : Machine) (text told told2 : List ℕ) (before between after : List Account) (stop : Stop)
    → n < 8 → FirstBetween steps past event n mid text told before between
    → SinkMeets (after_offers airs_of (offers_below steps past event n) steps) (with_closes_below event n past) n event new told told2 between after (Err stop)
    → FirstMeets steps past event there text told2 before after (Err stop)
between_stops steps past event n mid new there text told told2 before between after (Refused reason) below b m = m
between_stops steps past event n mid new there text told told2 before between after OutletFault below b m = grind (arith, not_yet)
between_stops steps past event n mid new there text told told2 before between after Memory below b m =
    let prefix : List SinkUnit = units_below past event n in
    let here : List SinkUnit = closing_of n 0 event past in
    let rest : List SinkUnit = flat_map (λ k. closing_of k 0 event past) (range_with_len (n + 1) (7 - n)) in
    subst (λ units. CutShort units before after) (sym (range_about (λ k. closing_of k 0 event past) n below))
    (hands_stop (prefix ++ here) rest [] [] before after Memory
    (hands_then prefix here [] (unit_lines prefix) [] before between after (Err Memory) refl b.boxes
    (subst (λ units. CutShort units between after) (not_yet past event n) m)))

pub between_over : (steps : List Step) (past : Histories) (event number : ℕ) (machine : Machine) (text told : List ℕ) (before after : List Account) → number ≡ 8
    → FirstBetween steps past event number machine text told before after → FirstMeets steps past event machine text told before after (Ok tt)
between_over steps past event number machine text told before after all b =
    let last : FirstBetween steps past event 8 machine text told before after =
    subst (λ n. FirstBetween steps past event n machine text told before after) all b in (
      record { sources = last.components.sources; sinks = closed_all past event machine.sinks last.components.sinks; relays = last.components.relays },
      last.lines,
      last.boxes,
    )

-- the boxes of no living sink
pub unassigned_next : {A : Type 0} (past : Histories) (old mid new : List A) → UnassignedSame past old mid → UnassignedSame past mid new → UnassignedSame past old new
unassigned_next past old mid new first second place free = second place free ∙ first place free

-- ---- one sink

-- what its relay offers of the units that it lends
pub offers_lent : (steps : List Step) (past : Histories) (n event : ℕ) (lent : List Handed) (sources : Sources) (relays : Relays) (text told : List ℕ) (r : Result (Unit {0}) Stop)
    → lent ≡ handed_all (closing_of n 0 event past) → OffersMeet steps (offered_of n (relay_of n steps) lent) sources relays text told r
    → OffersMeet steps (offers_of steps past n event) sources relays text told r
offers_lent steps past n event lent sources relays text told r is o = grind (arith, offered_of, relay_of)

-- its units were handed, and its relay offered them
pub sink_relays : (steps : List Step) (past : Histories) (n event : ℕ) (mid : Sinks) (new : Machine) (text told told2 : List ℕ) (before after : List Account)
    → ClosesAt past n 0 event mid text told before after (Ok tt)
    → OffersMeet steps (offers_of steps past n event) new.sources new.relays told told2 (Ok tt)
    → SinksStand (with_close_at n 0 event past) new.sinks → SinkMeets steps past n event new text told2 before after (Ok tt)
sink_relays steps past n event mid new text told told2 before after c o s = grind (arith, append_assoc)

-- memory ran out as they were offered
pub offers_stop : (steps : List Step) (past : Histories) (n event : ℕ) (mid : Sinks) (new : Machine) (sources : Sources) (relays : Relays) (text told told2 : List ℕ)
    (before after : List Account) (stop : Stop) → ClosesAt past n 0 event mid text told before after (Ok tt)
    → OffersMeet steps (offers_of steps past n event) sources relays told told2 (Err stop)
    → SinkMeets steps past n event new text told2 before after (Err stop)
offers_stop steps past n event mid new sources relays text told told2 before after stop c o = grind (arith, closing_of, append-nil)

-- Where no sink has a relay, an event of source 0 that is closed for all sinks at once is closed as for one behind the other.
use Rattle.replay_steps.proofs.Prelude.{ℕ, zero, suc, ◌≡◌, ◌≤◌, ◌<◌, ◌+◌, ◌⊎◌, ◌==◌, ◌&&◌, not, Bool, true, false, List, [], ◌∷◌, ◌++◌, refl, sym, ◌∙◌, ap, subst, inl, inr, arith, append_assoc, append-nil, eqb-true, option_map, is_none, Option, None, Some, Result, Ok, Err, flat_map, list_all, range_with_len, and_parts, cases_eq, not-false, Account, airs_of, Stop, Refused, OutletFault, Memory, Step, SinkUnit, accounts_after, after_offers, offered_of, unit_lines, Route, relay_of, closing_of, handed_all, BoxFails, Histories, accounts_append, is_idle, RelaysStand, SourcesStand, Machine, lent, relay_histories, Closes, FirstMeets, ComponentsStand, lines_at, lines_below, offers_below, offers_of, units_below, flat_within, sink_numbers, lines_append}
use Rattle.scenario_sinks.specs.Closing as sinks
use Rattle.replay_steps.proofs.Between.{range_more}
use Rattle.replay_steps.proofs.Closed.{first_closes}
use Rattle.replay_steps.proofs.CloseLines.{flat_nothing}

-- ---- a box stops units of two lists

-- one of the units stands in the first list
record InFirst (us done : List SinkUnit) (unit : SinkUnit) : Type 0 where
  rest : List SinkUnit
  split : us ≡ done ++ unit ∷ rest

-- it stands in the second
record InSecond (us vs done : List SinkUnit) (unit : SinkUnit) (rest : List SinkUnit) : Type 0 where
  more : List SinkUnit
  prefix : done ≡ us ++ more
  split : vs ≡ more ++ unit ∷ rest

stands_in : (us vs done : List SinkUnit) (unit : SinkUnit) (rest : List SinkUnit) → us ++ vs ≡ done ++ unit ∷ rest
    → InFirst us done unit ⊎ InSecond us vs done unit rest
stands_in [] vs done unit rest is = inr (record { more = done; prefix = refl; split = is })
stands_in (u ∷ us) vs [] unit rest is = grind arith
stands_in (u ∷ us) vs (d ∷ done) unit rest is =
    let same : u ≡ d = cc in
    let less : us ++ vs ≡ done ++ unit ∷ rest = cc in
    elim (stands_in us vs done unit rest less) [
      | inl one ↦ inl (record { rest = one.rest; split = ap (λ x. x ∷ us) same ∙ ap (λ l. d ∷ l) one.split })
      | inr other ↦ inr (record { more = other.more; prefix = ap (λ x. x ∷ done) (sym same) ∙ ap (λ l. u ∷ l) other.prefix; split = other.split })
    ]

fails_split : (us vs : List SinkUnit) (text told : List ℕ) (before after : List Account) → BoxFails (us ++ vs) text told before after
    → BoxFails us text told before after ⊎ BoxFails vs (text ++ unit_lines us) told (accounts_after before us) after
fails_split us vs text told before after f = elim (stands_in us vs f.done f.unit f.rest f.split) [
  | inl one ↦ inl (grind arith)
  | inr other ↦ inr (grind (arith, unit_lines, lines_append, append_assoc, accounts_after, accounts_append))
]

-- ---- a box stops units of the first sinks

-- it is one of the sinks below a number, behind the lines of those below it
record FailsBelow (past : Histories) (event below : ℕ) (text told : List ℕ) (before after : List Account) : Type 0 where
  number : ℕ
  within : number < below
  fails : BoxFails (closing_of number 0 event past) (text ++ unit_lines (units_below past event number)) told
      (accounts_after before (units_below past event number)) after

none_fails : (done : List SinkUnit) (unit : SinkUnit) (rest : List SinkUnit) → [] ≡ done ++ unit ∷ rest → ⊥
none_fails [] unit rest is = cc is
none_fails (d ∷ done) unit rest is = cc is

fails_below : (past : Histories) (event below : ℕ) (text told : List ℕ) (before after : List Account) → BoxFails (units_below past event below) text told before after
    → FailsBelow past event below text told before after
fails_below past event zero text told before after f = absurd (none_fails f.done f.unit f.rest f.split)
fails_below past event (suc below) text told before after f =
    let more : suc below ≡ below + 1 = omega arith in
    let each : ℕ → List SinkUnit = λ n. closing_of n 0 event past in
    elim (fails_split (units_below past event below) (closing_of below 0 event past) text told before after
    (subst (λ us. BoxFails us text told before after) (ap (λ m. flat_map each (range_with_len 0 m)) more ∙ range_more each below) f)) [
      | inl prefix ↦
          let deep : FailsBelow past event below text told before after = fails_below past event below text told before after prefix in
          record { number = deep.number; within = let w = deep.within in omega (arith, w); fails = deep.fails }
      | inr last ↦ record { number = below; within = omega arith; fails = last }
    ]

-- ---- no sink has a relay

abbrev NoRelays : List Step → Type 0
NoRelays steps = (n : ℕ) → n < 8 → relay_of n steps ≡ None

all_within : (test : ℕ → Bool) (start count : ℕ) → list_all test (range_with_len start count) ≡ true → (n : ℕ) → start ≤ n → n < start + count → test n ≡ true
all_within test start zero is n least below = absurd (omega (arith, least, below))
all_within test start (suc count) is n least below =
    let parts = and_parts (test start) (list_all test (range_with_len (start + 1) count)) is in
    elim (cases_eq start n) [
      | inl same ↦ ap test (sym same) ∙ parts.0
      | inr other ↦ all_within test (start + 1) count parts.1 n (omega (arith, least, other)) (omega (arith, below))
    ]

none_lent : (route : Option Route) → is_none (option_map lent route) ≡ true → route ≡ None
none_lent route is = grind arith

none_has : (steps : List Step) → is_idle (relay_histories steps) ≡ true → NoRelays steps
none_has steps is n below =
    none_lent (relay_of n steps) (all_within (λ m. is_none (option_map lent (relay_of m steps))) 0 8 is n (omega arith) (omega (arith, below)))

nothing_offered : (steps : List Step) (past : Histories) (event n : ℕ) → NoRelays steps → n < 8 → offers_of steps past n event ≡ []
nothing_offered steps past event n none below = ap (λ relay. offered_of n relay (handed_all (closing_of n 0 event past))) (none n below)

nothing_below : (steps : List Step) (past : Histories) (event number : ℕ) → NoRelays steps → number ≤ 8 → offers_below steps past event number ≡ []
nothing_below steps past event number none most =
    flat_nothing (λ n. offers_of steps past n event) 0 number (λ n least below. nothing_offered steps past event n none (omega (arith, most, below)))

-- a sink has the lines of its units alone
plain_at : (steps : List Step) (past : Histories) (event n : ℕ) → NoRelays steps → n < 8 → lines_at steps past n event ≡ unit_lines (closing_of n 0 event past)
plain_at steps past event n none below =
    grind (arith, nothing_offered steps past event n none below, append-nil (unit_lines (closing_of n 0 event past)))

lines_flat : (f : ℕ → List SinkUnit) (ns : List ℕ) → unit_lines (flat_map f ns) ≡ flat_map (λ n. unit_lines (f n)) ns
lines_flat f [] = refl
lines_flat f (n ∷ ns) = lines_append (f n) (flat_map f ns) ∙ ap (λ l. unit_lines (f n) ++ l) (lines_flat f ns)

plain_below : (steps : List Step) (past : Histories) (event number : ℕ) → NoRelays steps → number ≤ 8
    → lines_below steps past event number ≡ unit_lines (units_below past event number)
plain_below steps past event number none most =
    flat_within (λ n. lines_at steps past n event) (λ n. unit_lines (closing_of n 0 event past)) 0 number
    (λ n least below. plain_at steps past event n none (omega (arith, most, below)))
    ∙ sym (lines_flat (λ n. closing_of n 0 event past) (range_with_len 0 number))

-- ---- an event of source 0

pub idle_meets : (steps : List Step) (past : Histories) (event : ℕ) (old new : Machine) (text told : List ℕ) (before after : List Account) (r : Result (Unit {0}) Stop)
    → is_idle (relay_histories steps) ≡ true → ComponentsStand steps past old → new.sources ≡ old.sources → new.relays ≡ old.relays
    → sinks.Closes past 0 (Some event) new.sinks text told before after r → FirstMeets steps past event new text told before after r
unfolding sink_numbers
idle_meets steps past event old new text told before after (Ok x) idle components sources held m =
    let none = none_has steps idle in
    let stay : after_offers airs_of (offers_below steps past event 8) steps ≡ steps =
    ap (λ offers. after_offers airs_of offers steps) (nothing_below steps past event 8 none (omega arith)) in (
      record {
        sources = subst (λ made. SourcesStand made new.sources) (sym stay) (subst (λ s. SourcesStand steps s) (sym sources) components.sources);
        sinks = m.stands;
        relays = subst (λ made. RelaysStand (relay_histories made) new.relays) (sym stay) (subst (λ r. RelaysStand (relay_histories steps) r) (sym held) components.relays);
      },
      m.hands.0 ∙ ap (λ l. text ++ l) (sym (plain_below steps past event 8 none (omega arith))),
      m.hands.1,
    )
idle_meets steps past event old new text told before after (Err (Refused reason)) idle components sources held m = m.hands
idle_meets steps past event old new text told before after (Err OutletFault) idle components sources held m =
    let none = none_has steps idle in
    let f : FailsBelow past event 8 text told before after = fails_below past event 8 text told before after m.hands in
    let within : f.number < 8 = f.within in
    record { number = f.number; within = f.within; fails = grind (arith, closing_of, accounts_after, units_below, plain_below) }
idle_meets steps past event old new text told before after (Err Memory) idle components sources held m = m.hands

-- an event that is closed for all sinks at once: of another source, or where no sink has a relay
pub closes_at_once : (steps : List Step) (past : Histories) (source : ℕ) (closed : Option ℕ) (event : ℕ) (old new : Machine) (text told : List ℕ) (before after : List Account)
    (r : Result (Unit {0}) Stop) → ((source == 0) && not (is_idle (relay_histories steps))) ≡ false → closed ≡ Some event → ComponentsStand steps past old
    → new.sources ≡ old.sources → new.relays ≡ old.relays → sinks.Closes past source (Some event) new.sinks text told before after r
    → Closes steps past source closed new text told before after r
closes_at_once steps past source closed event old new text told before after r idle is components sources held m =
    grind (arith, first_closes, idle_meets, not-false)

-- relays offer as an event of source 0 alone is closed
pub relays_first : (source : ℕ) (more : Bool) → ((source == 0) && more) ≡ true → source ≡ 0
relays_first source more both = eqb-true source 0 ((and_parts (source == 0) more both).0)

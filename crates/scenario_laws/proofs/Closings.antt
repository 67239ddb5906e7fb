-- Of all that is handed up by a step, what is of one sink and one source.
use Rattle.scenario_laws.proofs.Known.Sources.Steps.{ℕ, ◌≡◌, ◌≢◌, ◌≤◌, ◌+◌, ◌==◌, ◌&&◌, cond, eqb, Bool, true, false, List, [], ◌∷◌, ◌++◌, map, Option, None, Some, refl, ◌∙◌, ap, arith, inl, inr, is_some, flat_map, range_with_len, cases_eq, cond-false, cond-true, eq-eqb, ne_eqb, eqb-true, false≢true, and_right, append-nil, none-some, Handed, Call, handed_at, Step, made_of, chosen_of, steps_of_source, open_event, Airs, is_of, sink_calls, source_of, with_sink_call, SinkUnit, box_after, box_of, closing_at, closing_by, closing_in, handed_by, of_sink, place, closing, sink_numbers, Permitted, permitted, air_place, same_place, tick_if_place}
use Rattle.scenario_laws.proofs.Legals.{Legal}
use Rattle.scenario_laws.proofs.RelayedUnits.Offered.{flat_one, handed_append, not_handed, not_closing}

-- ---- a sink that is on a group has a box

is_none : (box : Option ℕ) → is_some box ≡ true → box ≡ None → ⊥
is_none box has none = grind (arith, false≢true, none-some)

-- a sink without a box doesn't live
unmade : (n : ℕ) (made : List Step) → box_of n made ≡ None → made_of n made ≡ None
unmade n [] none = refl
unmade n (Step.Sink sink streams slots mtu ∷ earlier) none = grind (arith, none-some, (unmade n earlier))
unmade n (Step.Drop sink ∷ earlier) none = grind (arith, (unmade n earlier))
unmade n (_ ∷ earlier) none = unmade n earlier none

housed_after : (airs : Airs) (boxes n : ℕ) (step : Step) (earlier : List Step) (calls : List Call) → Permitted airs boxes earlier step → (box_of n earlier ≡ None → place calls ≡ None)
    → box_after n step earlier (box_of n earlier) ≡ None → place (with_sink_call airs n step earlier calls) ≡ None
housed_after airs boxes n this earlier calls permits before none =
    grind (arith, same_place, air_place, tick_if_place, unmade, none-some, is_none, eqb-true)

housed : (airs : Airs) (boxes n : ℕ) (made : List Step) → Legal airs boxes made → box_of n made ≡ None → place (sink_calls airs n made) ≡ None
housed airs boxes n [] legal none = refl
housed airs boxes n (this ∷ earlier) legal none = search (housed_after, permitted, housed airs boxes n earlier legal.0)

-- ---- of what is handed up as an event is closed, what is of one sink and one source

of_sinks : (s n : ℕ) (f : ℕ → List SinkUnit) (ms : List ℕ) → of_sink s n (flat_map f ms) ≡ flat_map (λ m. of_sink s n (f m)) ms
of_sinks s n f [] = refl
of_sinks s n f (m ∷ ms) = handed_append s n (f m) (flat_map f ms) ∙ ap (λ ys. of_sink s n (f m) ++ ys) (of_sinks s n f ms)

own_units : (s n box : ℕ) (units : List Handed) → of_sink s n (map (λ unit. record { source = s; sink = n; box = box; unit = unit }) units) ≡ units
own_units s n box [] = refl
own_units s n box (unit ∷ units) = rw (eq-eqb s s refl, eq-eqb n n refl) (ap (λ us. unit ∷ us) (own_units s n box units))

-- the units of an event, where one is closed
abbrev pub handed_open : List Call → Option ℕ → List Handed
handed_open calls None = []
handed_open calls (Some event) = handed_at calls event

own_closing : (s n event : ℕ) (calls : List Call) (box : Option ℕ) (mine : Bool) → (box ≡ None → place calls ≡ None)
    → of_sink s n (cond mine (closing_in s event n calls box) []) ≡ cond mine (handed_at calls event) []
own_closing s n event calls box mine before = grind (arith, own_units)

other_closing : (s n c m event : ℕ) (calls : List Call) (box : Option ℕ) (its : Bool) → (eqb c s && eqb m n) ≡ false
    → of_sink s n (cond its (closing_in c event m calls box) []) ≡ []
other_closing s n c m event calls box its apart = grind (arith, not_handed)

sink_closing : (airs : Airs) (boxes s n : ℕ) (made : List Step) (event : ℕ) → Legal airs boxes made → n ≤ 7
    → of_sink s n (closing_at airs s made (Some event)) ≡ cond (is_of s (source_of n made)) (handed_at (sink_calls airs n made) event) []
unfolding sink_numbers
sink_closing airs boxes s n made event legal within =
    of_sinks s n (λ m. closing_by s event m (sink_calls airs m made) (source_of m made) (box_of m made)) (range_with_len 0 8)
    ∙ flat_one (λ m. of_sink s n (closing_by s event m (sink_calls airs m made) (source_of m made) (box_of m made))) n 0 8 (omega arith) (omega (arith, within))
    (λ m apart. other_closing s n s m event (sink_calls airs m made) (box_of m made) (is_of s (source_of m made)) (and_right (eqb s s) (eqb m n) (ne_eqb m n apart)))
    ∙ own_closing s n event (sink_calls airs n made) (box_of n made) (is_of s (source_of n made)) (housed airs boxes n made legal)

-- ---- what a step hands up of a sink and a source

abbrev pub shown_if : Bool → List Call → Option ℕ → List Handed
shown_if mine calls last_open = cond mine (handed_open calls last_open) []

abbrev pub shown_with : Airs → ℕ → ℕ → List Step → List Handed
shown_with airs s n earlier = shown_if (is_of s (source_of n earlier)) (sink_calls airs n earlier) (open_event (steps_of_source s earlier))

abbrev pub shown_by : Airs → ℕ → ℕ → List Step → Step → List Handed
shown_by airs s n earlier Step.Event = cond (chosen_of earlier == s) (shown_with airs s n earlier) []
shown_by airs s n earlier Step.Stop = cond (chosen_of earlier == s) (shown_with airs s n earlier) []
shown_by airs s n earlier (Step.Terminate reason) = cond (chosen_of earlier == s) (shown_with airs s n earlier) []
shown_by airs s n earlier Step.End = shown_with airs s n earlier
shown_by airs s n earlier _ = []

cond_same : (units : List Handed) (b : Bool) → cond b units units ≡ units
cond_same units b = grind arith

pub closing_shown : (airs : Airs) (boxes s c n : ℕ) (made : List Step) → Legal airs boxes made → n ≤ 7
    → of_sink s n (closing airs c made) ≡ cond (c == s) (shown_with airs s n made) []
closing_shown airs boxes s c n made legal within = elim (cases_eq c s) [
  | inl same ↦ grind (arith, of_sink, open_event, steps_of_source, cond-true, eq-eqb, cond_same, sink_closing)
  | inr apart ↦ grind (arith, cond-false, ne_eqb, not_closing)
]

-- one of the two sources is this one
both_shown : (s : ℕ) (shown : List Handed) → s ≤ 1 → cond (0 == s) shown [] ++ cond (1 == s) shown [] ≡ shown
both_shown s shown least = grind (arith, append-nil)

pub step_shown : (airs : Airs) (boxes s n : ℕ) (step : Step) (earlier : List Step) → Legal airs boxes earlier → s ≤ 1 → n ≤ 7
    → of_sink s n (handed_by airs earlier step) ≡ shown_by airs s n earlier step
step_shown airs boxes s n Step.End earlier legal least within =
    cc (
      handed_append s n (closing airs 0 earlier) (closing airs 1 earlier),
      closing_shown airs boxes s 0 n earlier legal within,
      closing_shown airs boxes s 1 n earlier legal within,
      both_shown s (shown_with airs s n earlier) least,
    )
step_shown airs boxes s n this earlier legal least within = search (closing_shown airs boxes s (chosen_of earlier) n earlier legal within)

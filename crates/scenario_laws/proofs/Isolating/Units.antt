-- The units that a sink hands up as an event is closed: of the source that it is of alone, whatever other sinks do.
use Rattle.scenario_laws.proofs.Known.Sources.Steps.{ℕ, ◌≡◌, ◌==◌, ◌∙◌, cond, Bool, false, List, [], ◌∷◌, ◌++◌, map, Option, None, Some, is_some, refl, arith, ap, flat_map, cases_eq, eq-eqb, false≢true, ne_eqb, map-append, filter-append, Handed, Call, Step, SinkUnit, box_of, closing_at, closing_both, closing_by, closing_in, is_of, sink_calls, source_of, open_event, Airs, steps_of_source, units_by, closing, Same}
use Rattle.scenario_laws.proofs.RelayedUnits.Printed.{flat_same}

-- ---- lists

pub units_append : (n : ℕ) (us vs : List SinkUnit) → units_by n (us ++ vs) ≡ units_by n us ++ units_by n vs
units_append n us vs = search (filter-append, map-append)

units_flat : (n : ℕ) (f : ℕ → List SinkUnit) (ms : List ℕ) → units_by n (flat_map f ms) ≡ flat_map (λ m. units_by n (f m)) ms
units_flat n f [] = refl
units_flat n f (m ∷ ms) = units_append n (f m) (flat_map f ms) ∙ ap (λ us. units_by n (f m) ++ us) (units_flat n f ms)

flat_none : (f : ℕ → List Handed) (ms : List ℕ) → ((m : ℕ) → f m ≡ []) → flat_map f ms ≡ []
flat_none f [] none = refl
flat_none f (m ∷ ms) none = ap (λ us. us ++ flat_map f ms) (none m) ∙ flat_none f ms none

-- ---- one sink

own_units : (t n box : ℕ) (units : List Handed)
    → units_by n (map (λ unit. record { source = t; sink = n; box = box; unit = unit }) units) ≡ units
own_units t n box [] = refl
own_units t n box (unit ∷ units) = rw (eq-eqb n n refl) (ap (λ us. unit ∷ us) (own_units t n box units))

other_units : (t n m box : ℕ) (units : List Handed) → (m == n) ≡ false
    → units_by n (map (λ unit. record { source = t; sink = m; box = box; unit = unit }) units) ≡ []
other_units t n m box [] other = refl
other_units t n m box (unit ∷ units) other = rw other (other_units t n m box units other)

other_in : (its : Bool) (t event n m : ℕ) (calls : List Call) (box : Option ℕ) → (m == n) ≡ false
    → units_by n (cond its (closing_in t event m calls box) []) ≡ []
other_in its t event n m calls box other = grind (arith, other_units)

-- ---- all sinks

abbrev closes : Airs → (t event : ℕ) → List Step → ℕ → List SinkUnit
closes airs t event made m = closing_by t event m (sink_calls airs m made) (source_of m made) (box_of m made)

-- what a sink hands up of a source, over two lists of steps
pub record HandsAlike (airs : Airs) (n : ℕ) (made others : List Step) : Type 0 where
  pub calls : sink_calls airs n made ≡ sink_calls airs n others
  pub source : source_of n made ≡ source_of n others
  pub boxed : is_some (box_of n made) ≡ is_some (box_of n others)

each_closes : (airs : Airs) (t event n : ℕ) (made others : List Step) → HandsAlike airs n made others → (m : ℕ)
    → units_by n (closes airs t event made m) ≡ units_by n (closes airs t event others m)
each_closes airs t event n made others same m =
    grind (arith, cases_eq, units_by, is_of, source_of, sink_calls, box_of, other_in, ne_eqb, false≢true, own_units)

closing_same : (airs : Airs) (t n : ℕ) (last_open : Option ℕ) (made others : List Step) → HandsAlike airs n made others
    → units_by n (closing_at airs t made last_open) ≡ units_by n (closing_at airs t others last_open)
closing_same airs t n None made others same = refl
closing_same airs t n (Some event) made others same = search (units_flat, flat_same, each_closes)

-- a sink that isn't of the source hands up nothing
pub closing_none : (airs : Airs) (t n : ℕ) (last_open : Option ℕ) (made : List Step) → is_of t (source_of n made) ≡ false
    → units_by n (closing_at airs t made last_open) ≡ []
closing_none airs t n last_open made apart =
    grind (arith, units_flat, flat_none, cases_eq, units_by, cond, closing_in, sink_calls, box_of, other_in, is_of, source_of, ne_eqb)

-- ---- of any source

hands_alike : (airs : Airs) (s n : ℕ) (made others : List Step) → Same airs s n made others → HandsAlike airs n made others
hands_alike airs s n made others same = record { calls = same.calls; source = same.source; boxed = same.boxed }

pub closing_alike : (airs : Airs) (s n t : ℕ) (made others : List Step) → Same airs s n made others
    → units_by n (closing airs t made) ≡ units_by n (closing airs t others)
closing_alike airs s n t made others same =
    grind (arith, cases_eq, units_by, closing_at, closing_same, open_event, steps_of_source, hands_alike, closing_none, is_of)

pub both_alike : (airs : Airs) (s n : ℕ) (made others : List Step) → Same airs s n made others
    → units_by n (closing_both airs made) ≡ units_by n (closing_both airs others)
both_alike airs s n made others same = grind (arith, units_append, closing_alike)

-- What the box of a sink took since the sink was made: the valid units that the sink handed up since then, and nothing else, since no
-- two sinks have one box and a new sink has a new one.
use Rattle.scenario_laws.proofs.Known.Sources.Steps.Prelude.{ℕ, ◌≡◌, ◌<◌, ◌≤◌, ◌==◌, ◌∙◌, cond, Bool, true, false, List, [], ◌∷◌, ◌++◌, map, Option, None, Some, arith, refl, sym, ap, AllByRecursion, filter, flat_map, cases_eq, eq-eqb, eqb-true, ne_eqb, append-nil, none-some, Handed, valid, lost, Call, handed_at, Step, box_was_made, valid_append, SinkUnit, box_of, closing_at, closing_in, handed_by, handed_up, onto_valid, valid_for, open_event, Airs, sinks_made, sinks_made_by, steps_of_source, units_by, closing}

-- the octets of the valid ones
abbrev pub octets_in : List Handed → List (List ℕ)
octets_in [] = []
octets_in (valid bis time octets ∷ units) = octets ∷ octets_in units
octets_in (lost bis time ∷ units) = octets_in units

-- ---- no two sinks have one box

made_hits : (sink m k count b : ℕ) (bm bk : Option ℕ) (hm hk : Bool) → (bm ≡ Some b → b < count) → (bk ≡ Some b → b < count)
    → (bm ≡ Some b → bk ≡ Some b → m ≡ k) → (sink == m) ≡ hm → (sink == k) ≡ hk → cond hm (Some count) bm ≡ Some b
    → cond hk (Some count) bk ≡ Some b → m ≡ k
made_hits sink m k count b bm bk hm hk older older' before p q em ek = grind (arith, eqb-true)

gone_hits : (m k b : ℕ) (bm bk : Option ℕ) (hm hk : Bool) → (bm ≡ Some b → bk ≡ Some b → m ≡ k) → cond hm None bm ≡ Some b
    → cond hk None bk ≡ Some b → m ≡ k
gone_hits m k b bm bk hm hk before em ek = grind (arith, none-some)

one_box : (made : List Step) (m k b : ℕ) → box_of m made ≡ Some b → box_of k made ≡ Some b → m ≡ k
one_box [] m k b em ek = absurd (none-some b em)
one_box (Step.Sink sink streams slots mtu ∷ made) m k b em ek = cc (made_hits sink m k (sinks_made made) b (box_of m made) (box_of k made) (sink == m) (sink == k) (box_was_made m made b) (box_was_made k made b) (one_box made m k b) refl refl em ek)
one_box (Step.Drop sink ∷ made) m k b em ek = search (gone_hits, one_box made m k b)
one_box (_ ∷ made) m k b em ek = one_box made m k b em ek

-- ---- the units that go to the box of a sink are those of the sink

abbrev FitsBox : ℕ → ℕ → List SinkUnit → Type 0
FitsBox b n units = AllByRecursion (λ unit. (unit.box == b) ≡ (unit.sink == n)) units

one_octets : (hit : Bool) (unit : SinkUnit) (units : List SinkUnit)
    → onto_valid hit unit.unit (octets_in (map (λ u. u.unit) units)) ≡ octets_in (map (λ u. u.unit) (cond hit (unit ∷ units) units))
one_octets hit unit units = grind (arith, valid, lost)

its_octets : (b n : ℕ) (units : List SinkUnit) → FitsBox b n units → valid_for b units ≡ octets_in (units_by n units)
its_octets b n [] fits = refl
its_octets b n (unit ∷ units) fits =
    cc (fits.0, its_octets b n units fits.1, one_octets (unit.sink == n) unit (filter (λ u. u.sink == n) units))

fits_append : (b n : ℕ) (us vs : List SinkUnit) → FitsBox b n us → FitsBox b n vs → FitsBox b n (us ++ vs)
fits_append b n [] vs first rest = rest
fits_append b n (u ∷ us) vs first rest = (first.0, fits_append b n us vs first.1 rest)

fits_flat : (b n : ℕ) (f : ℕ → List SinkUnit) (ms : List ℕ) → ((m : ℕ) → FitsBox b n (f m)) → FitsBox b n (flat_map f ms)
fits_flat b n f [] each = tt
fits_flat b n f (m ∷ ms) each = fits_append b n (f m) (flat_map f ms) (each m) (fits_flat b n f ms each)

fits_units : (b n t m box : ℕ) (units : List Handed) → (box == b) ≡ (m == n)
    → FitsBox b n (map (λ unit. record { source = t; sink = m; box = box; unit = unit }) units)
fits_units b n t m box [] same = tt
fits_units b n t m box (unit ∷ units) same = (same, fits_units b n t m box units same)

same_tests : (made : List Step) (n m b box : ℕ) → box_of n made ≡ Some b → box_of m made ≡ Some box → (box == b) ≡ (m == n)
same_tests made n m b box its is = grind (arith, cases_eq, box_of, eq-eqb, ne_eqb, one_box)

fits_one : (made : List Step) (b n t event m : ℕ) (calls : List Call) (hit : Bool) (box : Option ℕ) → box_of n made ≡ Some b
    → box_of m made ≡ box → FitsBox b n (cond hit (closing_in t event m calls box) [])
fits_one made b n t event m calls true (Some box) its is = fits_units b n t m box (handed_at calls event) (same_tests made n m b box its is)
fits_one made b n t event m calls hit box its is = search (fits_units, handed_at, same_tests)

fits_at : (airs : Airs) (made : List Step) (b n t : ℕ) (last_open : Option ℕ) → box_of n made ≡ Some b
    → FitsBox b n (closing_at airs t made last_open)
fits_at airs made b n t None its = tt
fits_at airs made b n t (Some event) its = search (fits_flat, fits_one)

fits_closing : (airs : Airs) (made : List Step) (b n t : ℕ) → box_of n made ≡ Some b → FitsBox b n (closing airs t made)
fits_closing airs made b n t its = fits_at airs made b n t (open_event (steps_of_source t made)) its

fits_step : (airs : Airs) (made : List Step) (b n : ℕ) (step : Step) → box_of n made ≡ Some b → FitsBox b n (handed_by airs made step)
fits_step airs made b n Step.End its = search (fits_append, fits_closing)
fits_step airs made b n this its = search (fits_closing)

pub step_octets : (airs : Airs) (made : List Step) (b n : ℕ) (step : Step) → box_of n made ≡ Some b
    → valid_for b (handed_by airs made step) ≡ octets_in (units_by n (handed_by airs made step))
step_octets airs made b n step its = its_octets b n (handed_by airs made step) (fits_step airs made b n step its)

-- ---- a box that no sink had took nothing

none_units : (b t m box : ℕ) (units : List Handed) → (box == b) ≡ false
    → valid_for b (map (λ unit. record { source = t; sink = m; box = box; unit = unit }) units) ≡ []
none_units b t m box [] other = refl
none_units b t m box (valid bis time octets ∷ units) other = cc (other, none_units b t m box units other)
none_units b t m box (lost bis time ∷ units) other = none_units b t m box units other

none_flat : (b : ℕ) (f : ℕ → List SinkUnit) (ms : List ℕ) → ((m : ℕ) → valid_for b (f m) ≡ []) → valid_for b (flat_map f ms) ≡ []
none_flat b f [] none = refl
none_flat b f (m ∷ ms) none = cc (valid_append b (f m) (flat_map f ms), none m, none_flat b f ms none)

none_one : (made : List Step) (b t event m : ℕ) (calls : List Call) (hit : Bool) (box : Option ℕ) → sinks_made made ≤ b
    → box_of m made ≡ box → valid_for b (cond hit (closing_in t event m calls box) []) ≡ []
none_one made b t event m calls true (Some box) later is =
    let older : box < sinks_made made = box_was_made m made box is in
    none_units b t m box (handed_at calls event) (ne_eqb box b (λ same. omega (arith, older, later, same)))
none_one made b t event m calls hit box later is = search (sinks_made, box_was_made, none_units, handed_at, ne_eqb)

none_step : (airs : Airs) (made : List Step) (b : ℕ) (step : Step) → sinks_made made ≤ b → valid_for b (handed_by airs made step) ≡ []
none_step airs made b this later = grind (arith, valid_append, none_flat, none_one)

more_made : (step : Step) (count : ℕ) → count ≤ sinks_made_by step count
more_made _ count = grind arith

pub none_yet : (airs : Airs) (made : List Step) (b : ℕ) → sinks_made made ≤ b → valid_for b (handed_up airs made) ≡ []
none_yet airs [] b later = refl
none_yet airs (step ∷ made) b later =
    let before : sinks_made made ≤ b = omega (arith, more_made step (sinks_made made), later) in
    valid_append b (handed_up airs made) (handed_by airs made step)
    ∙ ap (λ us. us ++ valid_for b (handed_by airs made step)) (none_yet airs made b before) ∙ none_step airs made b step before

-- ---- what two boxes took alike

-- the box of the sink after some steps and that after others took the same
abbrev pub TookAlike : Airs → ℕ → List Step → List Step → Type 0
TookAlike airs n made others =
    (box other : ℕ) → box_of n made ≡ Some box → box_of n others ≡ Some other → valid_for box (handed_up airs made)
    ≡ valid_for other (handed_up airs others)

-- a step more in both lists, that leaves both boxes
stays_took : (airs : Airs) (n : ℕ) (step : Step) (made others : List Step) → TookAlike airs n made others
    → units_by n (handed_by airs made step) ≡ units_by n (handed_by airs others step) → (box other : ℕ) → box_of n made ≡ Some box
    → box_of n others ≡ Some other → valid_for box (handed_up airs (step ∷ made)) ≡ valid_for other (handed_up airs (step ∷ others))
stays_took airs n step made others took same box other its its' =
    cc (
      valid_append box (handed_up airs made) (handed_by airs made step),
      took box other its its',
      step_octets airs made box n step its,
      step_octets airs others other n step its',
      valid_append other (handed_up airs others) (handed_by airs others step),
    )

-- one list alone has the step, by which the sink hands up nothing
pub left_took : (airs : Airs) (n : ℕ) (step : Step) (made others : List Step) → TookAlike airs n made others
    → units_by n (handed_by airs made step) ≡ [] → box_of n (step ∷ made) ≡ box_of n made → TookAlike airs n (step ∷ made) others
left_took airs n step made others took none stays box other its its' =
    grind (
      arith,
      valid_append box (handed_up airs made) (handed_by airs made step),
      step_octets airs made box n step (sym stays ∙ its),
      append-nil (valid_for box (handed_up airs made)),
      took box other (sym stays ∙ its) its',
    )

pub kept_took : (airs : Airs) (n : ℕ) (step : Step) (made others : List Step) → TookAlike airs n made others
    → units_by n (handed_by airs made step) ≡ units_by n (handed_by airs others step) → TookAlike airs n (step ∷ made) (step ∷ others)
kept_took airs n this made others took same box other its its' = grind (arith, valid_append, none_yet, stays_took, none-some)

-- The sources after a step that means one of them.
use Rattle.scenario_sources.proofs.Prelude.{◌≡◌, ◌≢◌, ℕ, ◌<◌, ◌-◌, ◌==◌, Bool, true, false, List, ◌∷◌, length, refl, sym, ◌∙◌, ap, eq-eqb, ne_eqb, slice_get, slice_set, get_or, ◌&&◌, arith, Option, None, Some, ◌⊎◌, Result, Ok, Err, get_or_from_slice_get, slice_get-get_or, cases_eq, Refusal, IdentTwice, Stop, Refused, Step, Event, Start, Terminate, chosen_given, chosen_of, chosen_steps, is_of_source, other_of, steps_of_source, identity_of, is_started, get_set_here, get_set_other, refuse_if, Identity, Phase, Sources, fault_in, fault_of, Becomes, IsReady, PhaseAt, PhaseIs, SourcesStand, is_ident_twice, twin_refusal, are_twins, Answers, Closes, Performs, Terminates}
use Rattle.scenario_sources.specs.declared.performed.Performed.{Performed}
use Rattle.scenario_sources.specs.declared.terminated.Terminated.{Terminated}
use Rattle.scenario_sources.specs.State.Phases as state

-- the phase of a source that was read
pub phase_read : {steps : List Step} {s at : ℕ} {sources : Sources} {phase : Phase} → at ≡ s → s < 2
    → phase ≡ get_or sources.phases.items at phase → SourcesStand steps sources → PhaseIs (steps_of_source s steps) phase
phase_read {sources = sources} same below is stands =
    let two : length sources.phases.items ≡ 2 = sym sources.phases.ok.0 ∙ sources.two in
    grind (arith, length, steps_of_source, slice_get, slice_get-get_or)

-- two reads of one place
pub same_read : (phases : List Phase) (s t : ℕ) (first second : Phase) → s ≡ t → s < length phases
    → first ≡ get_or phases s first → second ≡ get_or phases t second → second ≡ first
same_read phases s t first second same inside one two = grind (arith, slice_get, slice_get-get_or, get_or_from_slice_get)

-- the phase of the chosen source
pub chosen_read : {steps : List Step} {at : ℕ} {sources : Sources} {phase : Phase} → at ≡ sources.chosen
    → phase ≡ get_or sources.phases.items at phase → SourcesStand steps sources → PhaseIs (chosen_steps steps) phase
chosen_read {sources = sources} same is stands = rw stands.chosen at (phase_read same sources.is_one is stands)

-- the step means the chosen source
pub record MeansChosen (made : Step) : Type 0 where
  pub line : (s : ℕ) (steps : List Step) → is_of_source s steps made ≡ (chosen_of steps == s)
  pub chooses : chosen_given made ≡ None

own_grows : (made : Step) (steps : List Step) → MeansChosen made → steps_of_source (chosen_of steps) (made ∷ steps) ≡ made ∷ chosen_steps steps
own_grows made steps means = grind (arith, chosen_steps, chosen_of, eq-eqb)

other_stays : (made : Step) (steps : List Step) (s : ℕ) → MeansChosen made → s ≢ chosen_of steps → steps_of_source s (made ∷ steps) ≡ steps_of_source s steps
other_stays made steps s means other = grind (arith, steps_of_source, ne_eqb, chosen_of)

chosen_stays : (made : Step) (steps : List Step) → chosen_given made ≡ None → chosen_of (made ∷ steps) ≡ chosen_of steps
chosen_stays made steps none = rw none refl

-- the phase of each source once that of the chosen one was set, where the steps of the other stay
set_at : (own : ℕ → List Step) (chosen s : ℕ) (phases : List Phase) (phase : Phase) → chosen < length phases
    → (s ≢ chosen → PhaseAt (own s) (slice_get phases s)) → PhaseIs (own chosen) phase → (s ≡ chosen) ⊎ (s ≢ chosen)
    → PhaseAt (own s) (slice_get (slice_set phases chosen phase) s)
set_at own chosen s phases phase inside others here which = grind (arith, slice_get, slice_set, get_set_here, get_set_other)

fault_same : (version : ℕ) (steps : List Step) (made : Step) → twin_refusal steps made ≡ None → (fault : Option Refusal)
    → fault_in version (chosen_steps steps) made ≡ fault → fault_of version steps made ≡ fault
fault_same version steps made twin fault e = grind arith

-- the phase of the chosen source was read, and one was put in its place
module _ {steps : List Step} {at : ℕ} {old : Sources} {was : Phase} (same : at ≡ old.chosen) (read : was ≡ get_or old.phases.items at was)
    (stands : SourcesStand steps old) (new : Sources) (phase : Phase) (chosen : new.chosen ≡ old.chosen)
    (set : new.phases.items ≡ slice_set old.phases.items at phase) where
  here : PhaseIs (chosen_steps steps) was
  here = chosen_read same read stands

  -- it is a new one
  lifted : (made : Step) → MeansChosen made → PhaseIs (made ∷ chosen_steps steps) phase → SourcesStand (made ∷ steps) new
  lifted made means after =
      let two : length old.phases.items ≡ 2 = sym old.phases.ok.0 ∙ old.two in
      grind (
        arith,
        chosen_of,
        length,
        chosen_stays,
        slice_set,
        set_at (λ n. steps_of_source n (made ∷ steps)),
        own_grows,
        other_stays,
        cases_eq,
      )

  -- it is the same
  again : PhaseIs (chosen_steps steps) phase → SourcesStand steps new
  again after =
      let two : length old.phases.items ≡ 2 = sym old.phases.ok.0 ∙ old.two in
      grind (arith, chosen_of, length, slice_set, set_at (λ n. steps_of_source n steps), cases_eq)

  -- what became of the chosen source became of all
  pub answers : (version : ℕ) (made : Step) (r : Result (Unit {0}) Stop) → MeansChosen made → twin_refusal steps made ≡ None
      → (PhaseIs (chosen_steps steps) was → Becomes version (chosen_steps steps) made phase r) → Answers version steps made new r
  answers version made (Ok x) means twin b = (fault_same version steps made twin None (b here).0, lifted made means (b here).1)
  answers version made (Err (Refused reason)) means twin b = (fault_same version steps made twin (Some reason) (b here).0, again (b here).1)
  answers version made (Err _) means twin b = b here

  pub terminates : (version reason : ℕ) (r : Result Terminated Stop)
      → (PhaseIs (chosen_steps steps) was → state.Terminates version (chosen_steps steps) reason phase r)
      → Terminates version steps reason new r
  terminates version reason (Ok x) b =
      let is = b here in (
        fault_same version steps (Terminate reason) refl None is.0,
        lifted (Terminate reason) (grind arith) is.1,
        is.2,
        is.3,
      )
  terminates version reason (Err (Refused cause)) b =
      (fault_same version steps (Terminate reason) refl (Some cause) (b here).0, again (b here).1)
  terminates version reason (Err _) b = b here

  pub closes : (version : ℕ) (made : Step) (r : Result (Option ℕ) Stop) → MeansChosen made → twin_refusal steps made ≡ None
      → (PhaseIs (chosen_steps steps) was → state.Closes version (chosen_steps steps) made phase r) → Closes version steps made new r
  closes version made (Ok x) means twin b = (fault_same version steps made twin None (b here).0, lifted made means (b here).1, (b here).2)
  closes version made (Err (Refused reason)) means twin b = (fault_same version steps made twin (Some reason) (b here).0, again (b here).1)
  closes version made (Err _) means twin b = b here

  pub performs : (version : ℕ) (r : Result Performed Stop)
      → (PhaseIs (chosen_steps steps) was → state.Performs version (chosen_steps steps) phase r) → Performs version steps new r
  performs version (Ok performed) b =
      (fault_same version steps Event refl None (b here).0, lifted Event (grind arith) (b here).1, (b here).2, (b here).3)
  performs version (Err (Refused reason)) b = (fault_same version steps Event refl (Some reason) (b here).0, again (b here).1)
  performs version (Err _) b = b here

-- ---- start

-- the other source was read, and was started with the same identity
pub twice_is : {steps : List Step} {at : ℕ} {sources : Sources} {phase : Phase} {own : Identity} {twice : Bool} → at ≡ 1 - sources.chosen
    → phase ≡ get_or sources.phases.items at phase → SourcesStand steps sources → own ≡ identity_of (chosen_steps steps)
    → ((other : List Step) → PhaseIs other phase → twice ≡ (is_started other && are_twins own (identity_of other))) → twice
    ≡ is_ident_twice steps
twice_is {steps = steps} {sources = sources} same read stands is twice =
    let other = twice (steps_of_source (1 - sources.chosen) steps) (phase_read same (omega arith) read stands) in
    let at = stands.chosen in
    grind (arith, is_started, identity_of, steps_of_source, other_of, chosen_of)

-- all but the proofs of what is always true of them is the same
pub stands_as : (steps : List Step) (old new : Sources) → SourcesStand steps old → new.chosen ≡ old.chosen → new.phases.items ≡ old.phases.items → SourcesStand steps new
stands_as steps old new stands chosen items = grind arith

pub start_refused : (version first : ℕ) (steps : List Step) (old new : Sources) (stop : Stop) → SourcesStand steps old → new.chosen ≡ old.chosen
    → new.phases.items ≡ old.phases.items → IsReady version first (chosen_steps steps) (Err stop) → Answers version steps (Start first) new (Err stop)
start_refused version first steps old new stop stands chosen items e = grind (arith, stands_as)

pub start_twice : (version first : ℕ) (steps : List Step) (twice : Bool) → fault_in version (chosen_steps steps) (Start first) ≡ None → twice ≡ is_ident_twice steps → twice ≡ true
    → fault_of version steps (Start first) ≡ Some IdentTwice
start_twice version first steps twice e is t = rw e (ap (λ (b : Bool). refuse_if b IdentTwice) (sym is ∙ t))

pub is_single : (first : ℕ) (steps : List Step) (twice : Bool) → twice ≡ is_ident_twice steps → twice ≡ false → twin_refusal steps (Start first) ≡ None
is_single first steps twice is t = ap (λ (b : Bool). refuse_if b IdentTwice) (sym is ∙ t)

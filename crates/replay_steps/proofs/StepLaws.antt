-- Each step by its own clause.
use Rattle.replay_steps.proofs.Prelude.{◌≡◌, ℕ, List, [], ◌∷◌, length, map, false, Result, Ok, refl, sym, append-nil, length-map, Account, airs_of, Step, Scenario, is_over, running, stage_of, unbegun, handed_by, handed_up, closes_first, output_of, is_relayed, line_refusal, boxes_stay, Machine, Stop, Stands, BoxesStand, Quiet, Tells, Meets, StepMeets, phase_line, arith}

pub boxes_counted : {A : Type 0} (f : A → Account) (items : List A) (starts : List Account) (steps : List Step) (n : ℕ) → n ≡ length items
    → BoxesStand starts steps (map f items) → n ≡ length starts
boxes_counted f items starts steps n is boxes = grind (arith, length-map, length, boxes_stay, handed_up, airs_of, map)

-- the memory that is kept for the octets of later units is no part of what the machine stands for
pub stands_beside : (steps : List Step) (machine new : Machine) → new.stage ≡ machine.stage → new.sources ≡ machine.sources → new.sinks ≡ machine.sinks
    → new.relays ≡ machine.relays → Stands steps machine → Stands steps new
stands_beside steps machine new stage sources sinks relays stands = grind arith

pub quiet_beside : (boxes : ℕ) (steps : List Step) (made : Step) (machine new : Machine) (r : Result (Unit {0}) Stop) → new.stage ≡ machine.stage
    → new.sources ≡ machine.sources → new.sinks ≡ machine.sinks → new.relays ≡ machine.relays → Quiet boxes steps made machine r → Quiet boxes steps made new r
quiet_beside boxes steps made machine new r stage sources sinks relays q = grind (arith, stands_beside)

pub meets_beside : (starts : List Account) (steps : List Step) (made : Step) (machine new : Machine) (text told : List ℕ) (before after : List Account)
    (r : Result (Unit {0}) Stop) → new.stage ≡ machine.stage → new.sources ≡ machine.sources → new.sinks ≡ machine.sinks → new.relays ≡ machine.relays
    → StepMeets starts steps made machine text told before after r → StepMeets starts steps made new text told before after r
meets_beside starts steps made machine new text told before after r stage sources sinks relays m = grind (arith, stands_beside)

pub quiet_meets : (starts : List Account) (boxes : ℕ) (steps : List Step) (made : Step) (new : Machine) (text : List ℕ) (accounts : List Account) (r : Result (Unit {0}) Stop)
    → boxes ≡ length starts → output_of airs_of starts steps made ≡ [] → handed_by airs_of steps made ≡ [] → closes_first steps made ≡ false
    → Quiet boxes steps made new r → Meets starts steps made new text text accounts accounts r
quiet_meets starts boxes steps made new text accounts r count output handed alone q = grind (arith, append-nil)

pub tells_meets : (starts : List Account) (steps : List Step) (made : Step) (new : Machine) (text told : List ℕ) (accounts : List Account) (r : Result (Unit {0}) Stop)
    → handed_by airs_of steps made ≡ [] → closes_first steps made ≡ false → is_relayed steps made ≡ false
    → Tells starts steps made new text told r → Meets starts steps made new text told accounts accounts r
tells_meets starts steps made new text told accounts r handed alone gives_none t = grind arith

-- a step that follows no `end`
pub goes_on : (boxes : ℕ) (steps : List Step) (made : Step) → is_over steps ≡ false → phase_line airs_of boxes steps made ≡ line_refusal airs_of boxes steps made
goes_on boxes steps made not_over = rw not_over refl

pub meets_step : (starts : List Account) (steps : List Step) (made : Step) (new : Machine) (text told : List ℕ) (before after : List Account) (r : Result (Unit {0}) Stop)
    → is_over steps ≡ false → Meets starts steps made new text told before after r → StepMeets starts steps made new text told before after r
meets_step starts steps made new text told before after r not_over m = grind (arith, goes_on, length)

-- ---- a step as it was read

pub quiet_as : (starts : List Account) (boxes : ℕ) (steps : List Step) (made other : Step) (new : Machine) (text : List ℕ) (accounts : List Account) (r : Result (Unit {0}) Stop)
    → made ≡ other → boxes ≡ length starts → output_of airs_of starts steps other ≡ [] → handed_by airs_of steps other ≡ [] → closes_first steps other ≡ false
    → Quiet boxes steps other new r → Meets starts steps made new text text accounts accounts r
quiet_as starts boxes steps made other new text accounts r is count output handed alone q = grind (arith, quiet_meets)

pub tells_as : (starts : List Account) (steps : List Step) (made other : Step) (new : Machine) (text told : List ℕ) (accounts : List Account) (r : Result (Unit {0}) Stop)
    → made ≡ other → handed_by airs_of steps other ≡ [] → closes_first steps other ≡ false → is_relayed steps other ≡ false
    → Tells starts steps other new text told r → Meets starts steps made new text told accounts accounts r
tells_as starts steps made other new text told accounts r is handed alone gives_none t = grind (arith, tells_meets)

pub meets_as : (starts : List Account) (steps : List Step) (made other : Step) (new : Machine) (text told : List ℕ) (before after : List Account) (r : Result (Unit {0}) Stop)
    → made ≡ other → Meets starts steps other new text told before after r → Meets starts steps made new text told before after r
meets_as starts steps made other new text told before after r is m = grind arith

-- ---- where the scenario stands

pub goes_on_in : (version : ℕ) (steps : List Step) → stage_of steps ≡ running version → is_over steps ≡ false
goes_on_in version steps e = rw e refl

-- the first step
pub begins : (starts : List Account) (version : ℕ) (steps : List Step) (new : Machine) (text : List ℕ) (accounts : List Account) → stage_of steps ≡ unbegun
    → Stands (Scenario version ∷ steps) new → StepMeets starts steps (Scenario version) new text text accounts accounts (Ok tt)
begins starts version steps new text accounts e stands = (rw e refl, stands, sym (append-nil text), refl)

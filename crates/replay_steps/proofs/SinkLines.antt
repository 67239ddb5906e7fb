-- The lines of a sink's control and of its links.
use Rattle.replay_steps.proofs.Prelude.{◌≡◌, ℕ, List, [], ◌∷◌, false, ◌∙◌, ap, Option, None, Some, Result, Ok, length, concat, Account, airs_of, Stop, Step, Announce, End, Stage, chosen_steps, running, stage_after, stage_of, handed_by, output_of, sink_lines, phase_refusal, calls_made, source_at, the_world, made_of, named_by, refused_at, refused_where, refusal_of, IsSinkLine, AnnouncesAs, SaysNothing, Histories, with_line, Machine, Stands, histories_of, Tells, Meets, closes_first, is_relayed, arith}
use Rattle.announcement_train.specs.declared.train.Train.{Train as Announced}
use Rattle.sink_history.specs.Output.{printed_at, printed_where}
use Rattle.scenario_sinks.specs.SinkLines.{SinkLineMakes}
use Rattle.replay_steps.proofs.StepLaws.{tells_meets}
use Rattle.replay_steps.proofs.Stepping.{brought, sinks_stand, beside, minds_relays}

-- ---- what such a line says

-- it says nothing of a source
line_says : (made : Step) → IsSinkLine made → SaysNothing made
line_says made line = grind arith

-- the past of the sinks with a line that names this sink
abbrev with_named : Option ℕ → Step → List Step → Histories
with_named None made steps = histories_of steps
with_named (Some n) made steps = with_line n (source_at steps) made (histories_of steps)

-- what the line is to the sinks, and that it leaves the scenario where it stands and hands up nothing
record Runs (made : Step) : Type 0 where
  stage : (stage : Stage) → stage_after made stage ≡ stage
  refusal : (boxes version : ℕ) (steps : List Step) → stage_of steps ≡ running version → phase_refusal airs_of boxes steps made ≡ refusal_of the_world steps made
  past : (steps : List Step) → histories_of (made ∷ steps) ≡ with_named (named_by made) made steps
  handed : (steps : List Step) → handed_by airs_of steps made ≡ []

line_runs : (made : Step) → IsSinkLine made → Runs made
line_runs End line = absurd line
line_runs made line = grind arith

line_minds : (made : Step) → IsSinkLine made → minds_relays made ≡ false
line_minds made line = grind arith

-- it closes no event, and gives no unit
closes_none_by : (steps : List Step) (made : Step) → IsSinkLine made → closes_first steps made ≡ false
closes_none_by steps made line = grind arith

gives_none_by : (steps : List Step) (made : Step) → IsSinkLine made → is_relayed steps made ≡ false
gives_none_by steps made line = (beside made (line_minds made line)).none steps

-- ---- what it prints

line_prints : (starts : List Account) (steps : List Step) (made : Step) → IsSinkLine made → output_of airs_of starts steps made ≡ sink_lines steps made
line_prints starts steps made line = grind arith

-- ---- what it does

-- a line of a sink that says nothing of a source, by what it is to the sinks
named_meets : (starts : List Account) (n : ℕ) (steps : List Step) (made : Step) (old new : Machine) (text told : List ℕ) (r : Result (Unit {0}) Stop)
    → Stands steps old → phase_refusal airs_of (length starts) steps made ≡ refused_where made (made_of n steps) (calls_made n steps) → SaysNothing made
    → stage_of (made ∷ steps) ≡ stage_of steps → histories_of (made ∷ steps) ≡ with_line n (source_at steps) made (histories_of steps)
    → output_of airs_of starts steps made ≡ concat (printed_where (source_at steps) made (made_of n steps) (calls_made n steps))
    → new.stage ≡ old.stage → new.sources ≡ old.sources → minds_relays made ≡ false → new.relays ≡ old.relays
    → SinkLineMakes (histories_of steps) n (source_at steps) made new.sinks text told r → Tells starts steps made new text told r
named_meets starts n steps made old new text told r stands is nothing on past output stage same minds held m =
    grind (arith, brought, sinks_stand)

pub line_meets : (starts accounts : List Account) (version n : ℕ) (steps : List Step) (made : Step) (old new : Machine) (text told : List ℕ) (r : Result (Unit {0}) Stop)
    → Stands steps old → stage_of steps ≡ running version → IsSinkLine made → named_by made ≡ Some n → new.stage ≡ old.stage → new.sources ≡ old.sources
    → new.relays ≡ old.relays → SinkLineMakes (histories_of steps) n (source_at steps) made new.sinks text told r
    → Meets starts steps made new text told accounts accounts r
line_meets starts accounts version n steps made old new text told r stands e line named stage same held m =
    let runs = line_runs made line in
    tells_meets starts steps made new text told accounts r (runs.handed steps) (closes_none_by steps made line) (gives_none_by steps made line)
    (named_meets starts n steps made old new text told r stands
    (runs.refusal (length starts) version steps e ∙ ap (refused_at the_world steps made) named) (line_says made line) (runs.stage (stage_of steps))
    (runs.past steps ∙ ap (λ o. with_named o made steps) named)
    (line_prints starts steps made line ∙ ap (λ o. concat (printed_at the_world steps made o)) named) stage same (line_minds made line) held m)

-- ---- announce

pub announce_meets : (starts : List Account) (version n : ℕ) (steps : List Step) (train : Announced) (old new : Machine) (text told : List ℕ) (r : Result (Unit {0}) Stop)
    → Stands steps old → stage_of steps ≡ running version → AnnouncesAs (chosen_steps steps) (Ok train) → new.stage ≡ old.stage → new.sources ≡ old.sources
    → new.relays ≡ old.relays → SinkLineMakes (histories_of steps) n (source_at steps) (Announce n) new.sinks text told r → Tells starts steps (Announce n) new text told r
announce_meets starts version n steps train old new text told r stands e a stage same held m = grind arith

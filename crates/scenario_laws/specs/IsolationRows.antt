-- A scenario of two sources and two sinks, and what is left of it for one sink and one source, by hand: the steps, the newest
-- first. The scenario language is this project's own.
use Rattle.std.specs.Prelude.{List, [], ◌∷◌, reverse, None}
use Rattle.scenario_text.specs.declared.step.Step.{Step}
use Rattle.scenario_text.specs.declared.step.Step.TheVariants as steps

-- an unframed group of one stream, with its first anchor at 20,000 µs
abbrev pub a_group : Step
a_group = steps.Group 0 20000 40000 8 10000 4 4 1 1 1 1 0 0 0 1

abbrev pub two_sources : List Step
two_sources = reverse (
    steps.Scenario 2 ∷ a_group ∷ steps.Start 0 ∷ steps.Sink 0 1 1 None ∷ steps.Sink 1 1 1 None ∷ steps.Tuned 0 1
    ∷ steps.Source 1 ∷ a_group ∷ steps.Start 7 ∷ steps.Tuned 1 1 ∷ steps.Announce 0 ∷ steps.Event ∷ steps.Air 1 0 ∷ steps.Show 0 ∷
    steps.Show 1
    ∷ steps.Source 0 ∷ steps.Event ∷ steps.Air 0 0 ∷ steps.Air 1 0 ∷ steps.Serve 1 ∷ steps.Lose 0 ∷ steps.Drop 0 ∷ steps.End ∷ [])

-- of sink 0 and source 0: what is announced to it by source 1 goes, and what it is asked to show meanwhile stays
abbrev pub left_of_both : List Step
left_of_both = reverse (
    steps.Scenario 2 ∷ a_group ∷ steps.Start 0 ∷ steps.Sink 0 1 1 None ∷ steps.Tuned 0 1 ∷ steps.Source 1 ∷ steps.Show 0
    ∷ steps.Source 0 ∷ steps.Event ∷ steps.Air 0 0 ∷ steps.Lose 0 ∷ steps.Drop 0 ∷ steps.End ∷ [])

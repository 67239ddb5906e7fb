use Rattle.scenario_words.proofs.Given.{GivenFrom}
use Rattle.scenario_words.proofs.value.all_have_words.Given as goal

abbrev pub invariant-loop-value : goal.invariant-loop-value
invariant-loop-value l = GivenFrom l.values l.value-index

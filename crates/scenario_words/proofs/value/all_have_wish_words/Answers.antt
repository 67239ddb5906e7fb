use Rattle.scenario_words.proofs.Prelude.{arith}
use Rattle.scenario_words.proofs.Given.{wish_passed}
use Rattle.scenario_words.proofs.value.all_have_wish_words.Goals as goal

pub wishes-preserved : goal.wishes-preserved
wishes-preserved c = grind (arith, wish_passed)

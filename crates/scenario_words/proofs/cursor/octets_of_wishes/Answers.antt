use Rattle.scenario_words.proofs.Prelude.{length, arith, add-one}
use Rattle.scenario_words.proofs.WishWords.{next_octets, one_short}
use Rattle.scenario_words.proofs.cursor.octets_of_wishes.Goals as goal

pub wishes-preserved : goal.wishes-preserved
wishes-preserved c = grind (arith, next_octets, one_short, length, add-one)

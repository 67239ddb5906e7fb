use Rattle.scenario_words.proofs.Given.{WishesFrom}
use Rattle.scenario_words.proofs.value.all_have_wish_words.Given as goal

abbrev pub invariant-wishes : goal.invariant-wishes
invariant-wishes l = WishesFrom l.wishes l.i

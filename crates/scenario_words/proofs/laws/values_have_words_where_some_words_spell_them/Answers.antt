use Rattle.scenario_words.proofs.Prelude.{[], refl, append-nil, Place, PlaceValue, one, perhaps, rising, wishes, Spells, HasWords, words_for, arith}
use Rattle.scenario_words.proofs.Places.{EndsAt, words_fit, words_spelled}
use Rattle.scenario_words.proofs.laws.values_have_words_where_some_words_spell_them.Goals as goal

nothing_left : (place : Place) → EndsAt place []
nothing_left (one place) = tt
nothing_left (perhaps least greatest) = refl
nothing_left rising = refl
nothing_left (wishes most) = refl

alone : (place : Place) (value : PlaceValue place) → HasWords place value → Spells place value (words_for place value) []
alone place value h = grind (arith, append-nil (words_for place value), words_spelled place value [] (nothing_left place) h)

pub returns-clause-exact : goal.returns-clause-exact
returns-clause-exact c place value = (λ h. (words_for place value, alone place value h), λ h. words_fit place value h.0 [] h.1)

pub returns-clause-written : goal.returns-clause-written
returns-clause-written c place value h = alone place value h

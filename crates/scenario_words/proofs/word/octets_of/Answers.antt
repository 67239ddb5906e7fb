use Rattle.scenario_words.proofs.Prelude.{arith, take, drop, length, ◌∷◌, [], sym, ◌∙◌, eqb-true, eqb-false}
use Rattle.scenario_words.proofs.OneWord.{dash, empty_word, no_digits, too_long, pairs, same_text, spells_some, whole_prefix}
use Rattle.scenario_words.proofs.word.octets_of.Goals as goal

pub returns-then-is_word-clause-gives : goal.returns-then-is_word-clause-gives
returns-then-is_word-clause-gives c = rw c.new.ensures (sym (dash c.args.most c.args.word.now (same_text c.args.word.now (45 ∷ []) c.is_word.result c.is_word.ensures c.if-is_word.true)))

pub returns-then-is_empty-clause-gives : goal.returns-then-is_empty-clause-gives
returns-then-is_empty-clause-gives c = sym (empty_word c.args.most c.args.word.now (eqb-true _ _ (sym c.is_empty.ensures ∙ c.if-is_empty.true)))

pub returns-then-count-most-clause-gives : goal.returns-then-count-most-clause-gives
returns-then-count-most-clause-gives c = grind (arith, too_long, eqb-false)

pub returns-then-not-are_pairs-clause-gives : goal.returns-then-not-are_pairs-clause-gives
returns-then-not-are_pairs-clause-gives c = grind (arith, no_digits, eqb-false)

pub returns-in_err-octets-clause-memory : goal.returns-in_err-octets-clause-memory
returns-in_err-octets-clause-memory c = grind (arith, spells_some, eqb-false)

pub returns-clause-gives : goal.returns-clause-gives
returns-clause-gives c = grind (arith, take, drop, length, whole_prefix, pairs, eqb-false)

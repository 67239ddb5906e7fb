use Rattle.scenario_words.proofs.Prelude.{sym, arith}
use Rattle.scenario_words.proofs.OneWord.{no_array, other_count, array_read, array_length}
use Rattle.scenario_words.proofs.word.array_of.Goals as goal

pub returns-then-word-clause-exact : goal.returns-then-word-clause-exact
returns-then-word-clause-exact g c = sym (other_count g.row.N c.args.word.now (λ same. omega (arith, c.if-word.true)))

pub returns-then-not-are_pairs-clause-exact : goal.returns-then-not-are_pairs-clause-exact
returns-then-not-are_pairs-clause-exact g c = grind (arith, no_array)

pub returns-clause-exact : goal.returns-clause-exact
returns-clause-exact g c = sym (array_read g.row.N c.args.word.now c.decode.new.octets c.decode.ensures c.if-word.false)

pub returns-clause-whole : goal.returns-clause-whole
returns-clause-whole g c = array_length g.row.N c.args.word.now c.decode.new.octets c.decode.ensures c.if-word.false

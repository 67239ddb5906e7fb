use Rattle.scenario_words.proofs.Prelude.{sym, arith}
use Rattle.scenario_words.proofs.OneWord.{too_small, too_great}
use Rattle.scenario_words.proofs.word.decimal_within.Goals as goal

pub returns-then-n-least : goal.returns-then-n-least
returns-then-n-least c = sym (too_small c.args.least c.args.greatest c.in_ok-n.n c.args.word.now (omega arith) (omega arith) c.in_ok-n.ensures.found c.if-n-least.true)

pub returns-then-greatest-n : goal.returns-then-greatest-n
returns-then-greatest-n c = sym (too_great c.args.least c.args.greatest c.in_ok-n.n c.args.word.now (omega arith) (omega arith) c.in_ok-n.ensures.found c.if-greatest-n.true)

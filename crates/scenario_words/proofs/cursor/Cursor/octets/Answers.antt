use Rattle.scenario_words.proofs.Prelude.{sym, ◌∙◌}
use Rattle.scenario_words.proofs.OneWord.{octets_range}
use Rattle.scenario_words.proofs.cursor.Cursor.octets.Goals as goal

pub returns-in-Some-2-clause-range : goal.returns-in-Some-2-clause-range
returns-in-Some-2-clause-range c = octets_range c.args.most c.in_ok-word.word.now c.in-Some-2.octets (sym c.in_ok-octets.ensures.gives ∙ c.in-Some-2.is)

use Rattle.scenario_words.proofs.Prelude.{refl, arith}
use Rattle.scenario_words.proofs.LastWord.{last_fits, last_spells}
use Rattle.scenario_words.proofs.OneWord.{octets_range}
use Rattle.scenario_words.proofs.cursor.Cursor.last_octets_into.Goals as goal

pub returns-in_err-octets_over-clause-memory : goal.returns-in_err-octets_over-clause-memory
returns-in_err-octets_over-clause-memory c = λ err. rw (← c.self.view_is) (last_spells c.args.most c.self.inside.read c.self.inside.rest c.in-Some.rest c.in-Some.is (c.in_err-octets_over.ensures.memory refl))

pub returns-clause-last : goal.returns-clause-last
returns-clause-last c = grind (arith, last_fits, octets_range)

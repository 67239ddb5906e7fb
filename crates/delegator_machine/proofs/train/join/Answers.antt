use Rattle.delegator_machine.proofs.Prelude.{◌∙◌, sym, fresh_on}
use Rattle.std.proofs.lemmas.Option.{same_Some}
use Rattle.delegator_machine.proofs.train.join.Goals as goal

pub returns-in-Some-clause-some : goal.returns-in-Some-clause-some
returns-in-Some-clause-some c tuning past is = c.sync_to_group.ensures tuning past (same_Some c.in-Some.receivers (fresh_on tuning) (sym c.in-Some.is ∙ is))

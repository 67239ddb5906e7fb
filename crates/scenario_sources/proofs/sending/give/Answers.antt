use Rattle.scenario_sources.proofs.Prelude.{sym, ◌∙◌, arith}
use Rattle.scenario_sources.proofs.Phasing.{coded, gives, none_of}
use Rattle.scenario_sources.proofs.sending.give.Goals as goal

pub returns-then-is_ciphered : goal.returns-then-is_ciphered
returns-then-is_ciphered c version own is = grind (arith, coded)

pub give_to-requires : goal.give_to-requires
give_to-requires c = none_of _ (sym c.is_ciphered.ensures ∙ c.if-is_ciphered.false)

pub returns : goal.returns
returns c version own is = grind (arith, gives)

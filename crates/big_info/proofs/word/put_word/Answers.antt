use Rattle.big_info.proofs.Prelude.{◌-◌, length, take, drop, arith, length-take-le, length-take, take-put_mid, drop-put_mid, sum_from}
use Rattle.big_info.proofs.Sums.{sum_from-join}
use Rattle.big_info.proofs.word.put_word.Goals as goal

pub returns-clause-joined : goal.returns-clause-joined
returns-clause-joined c = grind (arith, length, length-take, drop, sum_from, take-put_mid, sum_from-join, take, length-take-le)

pub returns-clause-rest : goal.returns-clause-rest
returns-clause-rest c = grind (arith, length, drop-put_mid)

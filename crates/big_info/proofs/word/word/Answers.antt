use Rattle.big_info.proofs.Prelude.{◌≡◌, ◌-◌, take, drop, arith, length, sum_from}
use Rattle.big_info.proofs.Sums.{sum_from-word, sum_from-part}
use Rattle.big_info.proofs.word.word.Goals as goal

part : (c : goal.After-read_le) → sum_from 0 (take c.args.count (drop c.args.place c.args.from.now)) ≡ c.read_le.result
part c = grind (arith, sum_from, take, drop)

pub returns-clause-joined : goal.returns-clause-joined
returns-clause-joined c = grind (arith, length, sum_from-word, sum_from, take, part)

pub returns-clause-small : goal.returns-clause-small
returns-clause-small c = grind (arith, part, sum_from-part)

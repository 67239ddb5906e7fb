use Rattle.big_info.proofs.Prelude.{◌≡◌, faults}
use Rattle.big_info.proofs.Order.{NoneOfFirst}
use Rattle.big_info.proofs.group.first.Given as goal

-- the faults so far do not hold
abbrev pub invariant-loop-fault : goal.invariant-loop-fault
invariant-loop-fault l = (l.fault-items ≡ faults) × NoneOfFirst l.greatest l.info l.fault-index

use Rattle.source_machine.proofs.Prelude.{◌≡◌, ◌++◌, take, stale_on}
use Rattle.source_machine.proofs.stream.tell_stale.Given as goal

abbrev pub invariant-times : goal.invariant-times
invariant-times l = l.stale ≡ l.initial.stale ++ stale_on l.bis (take l.i l.times)

use Rattle.sink_history.proofs.Prelude.{refl}
use Rattle.sink_history.proofs.Opened.{operations, lives}
use Rattle.sink_history.proofs.laws.worked_writes.Goals as goal

pub returns-clause-refused : goal.returns-clause-refused
unfolding operations lives
returns-clause-refused c world = record { remove_unknown = refl; modify_unknown = refl; no_opcode = refl; empty = refl; short = refl; long = refl; reserved = refl }

pub returns-clause-read : goal.returns-clause-read
unfolding operations lives
returns-clause-read c world = record { accepted = refl; printed = refl }

pub returns-clause-cut : goal.returns-clause-cut
unfolding operations lives
returns-clause-cut c world = record { accepted = refl; printed = refl }

pub returns-clause-forged : goal.returns-clause-forged
unfolding operations lives
returns-clause-forged c world = record { accepted = refl; printed = refl }

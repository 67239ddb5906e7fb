use Rattle.sink_history.proofs.Prelude.{refl}
use Rattle.sink_history.proofs.Opened.{operations, lives}
use Rattle.sink_history.proofs.laws.worked_rows.Goals as goal

pub returns-clause-known_source : goal.returns-clause-known_source
unfolding operations lives
returns-clause-known_source c world = record { accepted = refl; printed = refl }

pub returns-clause-second_assistant : goal.returns-clause-second_assistant
unfolding operations lives
returns-clause-second_assistant c world = record { accepted = refl; printed = refl }

pub returns-clause-parted : goal.returns-clause-parted
unfolding operations lives
returns-clause-parted c world = record { accepted = refl; printed = refl }

pub returns-clause-refused : goal.returns-clause-refused
unfolding operations lives
returns-clause-refused c world = record { none_waits = refl; twice = refl; no_link = refl }

use Rattle.sink_history.proofs.Prelude.{refl}
use Rattle.sink_history.proofs.Opened.{operations, lives, trains}
use Rattle.sink_history.proofs.laws.worked_trains.Goals as goal

pub returns-clause-train_and_loss : goal.returns-clause-train_and_loss
unfolding operations lives trains
returns-clause-train_and_loss c = record { accepted = refl; printed = refl }

pub returns-clause-whole_life : goal.returns-clause-whole_life
unfolding operations lives trains
returns-clause-whole_life c = record { accepted = refl; printed = refl }

pub returns-clause-forged : goal.returns-clause-forged
unfolding operations lives trains
returns-clause-forged c = record { nothing = refl; other = refl; no_base = refl; cut_base = refl; no_info = refl; cut_info = refl; no_group = refl; none_taken = refl }

pub returns-clause-encrypted : goal.returns-clause-encrypted
unfolding operations lives trains
returns-clause-encrypted c = record { accepted = refl; printed = refl }

use Rattle.delegator_history.proofs.Prelude.{ap, heard_as, big_sync_in}
use Rattle.delegator_history.proofs.TrainOutcome.{what_is_carried}
use Rattle.delegator_history.proofs.BigSyncs.{on_its_group}
use Rattle.delegator_history.proofs.announced_laws.a_sink_is_put_where_its_source_is.Goals as goal

pub returns : goal.returns
returns c setup snapshot address_type sid train broadcast_id base info event anchor slot bits encrypted big_sync tells is =
    on_its_group setup.horizon address_type sid train broadcast_id base info event anchor big_sync tells
    (what_is_carried setup snapshot (heard_as address_type sid train) big_sync (ap big_sync_in is))

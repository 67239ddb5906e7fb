use Rattle.scenario_sink.proofs.Prelude.{Some, refl, sync_to_group, stepped, after_call}
use Rattle.sync_reference.specs.BigSync.{BigSync}
use Rattle.scenario_sink.proofs.Histories.{of_source}
use Rattle.scenario_sink.proofs.Stands.{steps}
use Rattle.scenario_sink.proofs.sink.LinkedSink.tune.Goals as goal

pub returns : goal.returns
returns c history lives =
    let big_sync : BigSync = c.args.big_sync.now in
    let its = lives.stands in record {
      stands = of_source (Some c.args.source) (after_call (stepped (sync_to_group big_sync)) history) _ _
          (c.in_ok-gather.ensures.stands (stepped (sync_to_group big_sync)) history
          (steps (sync_to_group big_sync) history c.args.self.now.delegator _ _ refl tt its
          (c.in_ok-sync_to_group.ensures.stands history.made.setup its.took.taken its.took.stands) c.sync_to_group.ensures.settings));
      source_is = refl;
    }

use Rattle.scenario_sink.proofs.Prelude.{refl, locations_set}
use Rattle.scenario_sink.proofs.Stands.{sets}
use Rattle.scenario_sink.proofs.sink.LinkedSink.locate.Goals as goal

pub returns : goal.returns
returns c source sink history lives =
    let took = lives.stands.took in (
      refl,
      record {
        stands = sets c.a_step_notifies_each_link.ensures (locations_set c.args.bits) history c.args.self.now.delegator _ _ refl tt (λ snapshot i. refl) lives.stands
            (c.set_locations.ensures.stands history.made.setup took.taken took.stands) c.set_locations.ensures.settings;
        source_is = lives.source_is;
      },
    )

use Rattle.scenario_sink.proofs.Prelude.{refl, contexts_set}
use Rattle.scenario_sink.proofs.Stands.{sets}
use Rattle.scenario_sink.proofs.sink.LinkedSink.context.Goals as goal

pub returns : goal.returns
returns c source sink source_bits history lives =
    let took = lives.stands.took in (
      refl,
      record {
        stands = sets c.a_step_notifies_each_link.ensures (contexts_set c.args.bits) history c.args.self.now.delegator _ _ refl tt (λ snapshot i. refl) lives.stands
            (c.set_contexts.ensures.stands history.made.setup took.taken took.stands) c.set_contexts.ensures.settings;
        source_is = lives.source_is;
      },
    )

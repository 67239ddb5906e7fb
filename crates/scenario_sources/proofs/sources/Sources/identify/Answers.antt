use Rattle.scenario_sources.proofs.Prelude.{refl, chosen_steps}
use Rattle.scenario_text.specs.declared.step.Step.TheVariants.{Ident as IdentStep}
use Rattle.scenario_sources.proofs.Lifting.{answers}
use Rattle.scenario_sources.proofs.sources.Sources.identify.Goals as goal

pub returns : goal.returns
returns c version steps stands =
    answers refl c.index_mut.ensures.value stands _ c.identify.new.phase refl refl version
    (IdentStep c.args.identity.address_type c.args.identity.address c.args.identity.sid c.args.identity.broadcast_id) c.identify.result
    (record { line = λ s steps. refl; chooses = refl }) refl (c.identify.ensures version (chosen_steps steps))

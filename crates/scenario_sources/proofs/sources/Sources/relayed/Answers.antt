use Rattle.scenario_sources.proofs.Prelude.{refl, chosen_steps, fault_in}
use Rattle.scenario_text.specs.declared.step.Step.TheVariants.{Unit as UnitStep}
use Rattle.scenario_sources.proofs.Lifting.{chosen_read}
use Rattle.scenario_sources.proofs.Phasing.{lone_relayed}
use Rattle.scenario_sources.proofs.sources.Sources.relayed.Goals as goal

pub returns : goal.returns
returns c version steps stands =
    lone_relayed (fault_in version (chosen_steps steps) (UnitStep c.args.bis c.args.time c.args.octets.now)) c.relayed_in.result
    (c.relayed_in.ensures version (chosen_steps steps) (chosen_read refl c.index.ensures stands))

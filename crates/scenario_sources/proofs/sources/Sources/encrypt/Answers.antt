use Rattle.scenario_sources.proofs.Prelude.{refl, chosen_steps}
use Rattle.scenario_text.specs.declared.step.Step.TheVariants.{Cipher}
use Rattle.scenario_sources.proofs.Lifting.{answers}
use Rattle.scenario_sources.proofs.sources.Sources.encrypt.Goals as goal

pub returns : goal.returns
returns c version steps stands =
    answers refl c.index_mut.ensures.value stands _ c.encrypt.new.phase refl refl version
    (Cipher c.args.cipher.giv c.args.cipher.gskd) c.encrypt.result (record { line = λ s steps. refl; chooses = refl }) refl
    (c.encrypt.ensures version (chosen_steps steps))

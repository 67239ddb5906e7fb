use Rattle.replay_steps.proofs.Prelude.{refl, arith}
use Rattle.scenario_sources.specs.Described.{group_step}
use Rattle.replay_steps.proofs.Stepping.{sources_meet}
use Rattle.replay_steps.proofs.machine.Machine.group.Goals as goal

pub returns : goal.returns
returns c boxes version steps plain stands e =
    sources_meet boxes version steps (group_step c.args.info c.args.origin c.args.delay) c.args.self.now _ c.describe.result (grind arith) refl stands e refl refl refl refl
    (c.describe.ensures version steps plain stands.sources)

use Rattle.replay_steps.proofs.Prelude.{◌∙◌, ap, refl, sym, running, stage_in, scenario_begins, Scenario}
use Rattle.replay_steps.proofs.Stepping.{relays_stay}
use Rattle.replay_steps.proofs.StepLaws.{begins}
use Rattle.replay_steps.proofs.machine.Machine.begin.Goals as goal

pub returns-in-Scenario : goal.returns-in-Scenario
returns-in-Scenario c starts accounts steps said stands =
    let e = sym stands.stage ∙ ap stage_in c.in-Unbegun.is in
    rw c.in-Scenario.is (begins starts c.in-Scenario.version steps _ said accounts e (record {
      stage = ap running c.of.ensures;
      sources = scenario_begins c.in-Scenario.version steps c.args.self.now.sources e stands.sources;
      sinks = stands.sinks;
      relays = relays_stay steps (Scenario c.in-Scenario.version) c.args.self.now.relays refl stands.relays;
    }))

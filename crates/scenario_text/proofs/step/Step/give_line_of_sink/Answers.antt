use Rattle.scenario_text.proofs.Prelude.{◌≡◌, refl}
use Rattle.scenario_text.proofs.Whose.{of_sinks}
use Rattle.scenario_text.proofs.step.Step.give_line_of_sink.Goals as goal

pub unreachable-requires : goal.unreachable-requires
unreachable-requires g c =
    of_sinks (λ step. c.args.self.now ≡ step → ⊥)
    c.in_default.not-Sink c.in_default.not-Pac c.in_default.not-Locate c.in_default.not-Context c.in_default.not-Tuned c.in_default.not-Hear
    c.in_default.not-Air c.in_default.not-Inject c.in_default.not-Announce c.in_default.not-Train c.in_default.not-Show c.in_default.not-Lose
    c.in_default.not-Drop c.in_default.not-Control c.in_default.not-Forge c.args.self.now c.requires refl

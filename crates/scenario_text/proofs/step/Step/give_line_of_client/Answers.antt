use Rattle.scenario_text.proofs.Prelude.{◌≡◌, refl}
use Rattle.scenario_text.proofs.Whose.{of_clients}
use Rattle.scenario_text.proofs.step.Step.give_line_of_client.Goals as goal

pub unreachable-requires : goal.unreachable-requires
unreachable-requires g c =
    of_clients (λ step. c.args.self.now ≡ step → ⊥)
    c.in_default.not-Write c.in_default.not-Add c.in_default.not-Modify c.in_default.not-Remove c.in_default.not-Code c.in_default.not-Serve
    c.in_default.not-Tell c.in_default.not-Read c.in_default.not-Drain c.in_default.not-Assist c.in_default.not-Apart c.in_default.not-AWrite
    c.in_default.not-AServe c.in_default.not-ATell c.in_default.not-ARead c.in_default.not-ADrain c.in_default.not-AShow
    c.args.self.now c.requires refl

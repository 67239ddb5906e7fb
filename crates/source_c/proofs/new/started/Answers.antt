use Rattle.std.proofs.Common.{ap, ◌∙◌}
use Rattle.source_machine.specs.Setups.{Configured, started}
use Rattle.source_c.proofs.new.started.Goals as goal

pub returns-in-Ok-start-clause-source : goal.returns-in-Ok-start-clause-source
returns-in-Ok-start-clause-source c =
    let is = c.in-Ok.ensures.ok.0 in
    let ok = c.in-Ok-start.ensures.ok in
    let announced = c.in-Ok-start.ensures.announced in
    record {
      identity = ok.0 ∙ ap (λ (s : Configured). s.identity) is;
      base = announced.0 ∙ ap (λ (s : Configured). s.base) is;
      cipher = announced.1 ∙ ap (λ (s : Configured). s.cipher) is;
      setup_is = ok.1 ∙ ap (λ (s : Configured). started s c.args.first_event) is;
      stands = ok.2;
    }

use Rattle.scenario_lines.proofs.Prelude.{◌+◌, ◌∙◌, sym, ap, refl, codes, left_at, Place}
use Rattle.scenario_lines.specs.Generated.{unit_line}
use Rattle.scenario_lines.proofs.MadeSteps.{event_says}
use Rattle.scenario_lines.proofs.NextLines.{unit_next}
use Rattle.scenario_lines.proofs.made_lines.Lines.next_step.Goals as goal

pub returns-in_ok-step-in-Unit-clause-says : goal.returns-in_ok-step-in-Unit-clause-says
returns-in_ok-step-in-Unit-clause-says c =
    let at = sym c.self.view_is ∙ ap (λ (p : Place). left_at p c.self.inside.state c.self.inside.event c.self.inside.left) c.in-Unit.is in
    let line = unit_line 1 (c.self.inside.event + 1) in
    record {
      line = line;
      next = at ∙ unit_next c.self.inside.state c.self.inside.event c.self.inside.left line c.if-self-eq0.false refl;
      says = c.in_ok-step-in-Unit.ensures.says;
    }

pub returns-in-Event-clause-says : goal.returns-in-Event-clause-says
returns-in-Event-clause-says c = record {
  line = codes "event";
  next = sym c.self.view_is ∙ ap (λ (p : Place). left_at p c.self.inside.state c.self.inside.event c.self.inside.left) c.in-Event.is;
  says = event_says;
}

use Rattle.scenario_lines.proofs.Prelude.{◌≡◌, ◌∙◌, ◌++◌, ap, List, ℕ, codes}
use Rattle.scenario_lines.proofs.NextLines.{end_next, unit_next}
use Rattle.scenario_lines.proofs.made_lines.put_unit_or_end.Goals as goal

pub returns-then-left-eq0-clause-next : goal.returns-then-left-eq0-clause-next
returns-then-left-eq0-clause-next c = λ state.
    let line : c.append.new.self ≡ codes "end" = c.in_ok-append.ensures.ok ∙ ap (λ (t : List ℕ). t ++ codes "end") c.requires.empty in
    end_next state c.args.event c.args.left.now c.append.new.self c.if-left-eq0.true line

pub returns-clause-next : goal.returns-clause-next
returns-clause-next c = λ state.
    unit_next state c.args.event c.args.left.now c.put_unit.new.line c.if-left-eq0.false c.in_ok-put_unit.ensures

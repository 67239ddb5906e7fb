use Rattle.scenario_text.proofs.line.give_number.Goals as goal

pub returns : goal.returns
returns g c = c.take.ensures

use Rattle.scenario_lines.proofs.source_lines.ident.Goals as goal

pub returns : goal.returns
returns c = rw (c.in_ok-octet.ensures.gives, c.in_ok-array.ensures.gives, c.in_ok-octet-2.ensures.gives, c.in_ok-array-2.ensures.gives)

use Rattle.scenario_lines.proofs.Prelude.{line_of}
use Rattle.scenario_lines.proofs.Said.{its_line, it_fits}
use Rattle.scenario_lines.proofs.laws.a_step_has_a_line_where_it_fits.Goals as goal

pub returns-clause-exact : goal.returns-clause-exact
returns-clause-exact c step = (λ h. (line_of step, its_line step h), λ said. it_fits step said.0 said.1)

pub returns-clause-line : goal.returns-clause-line
returns-clause-line c = its_line

pub returns-clause-read : goal.returns-clause-read
returns-clause-read c step h = (c.a_line_says_one_step.ensures.says 2 (line_of step) step).0 (its_line step h)

pub returns-clause-one : goal.returns-clause-one
returns-clause-one c this that line is other = c.a_line_says_one_step.ensures.one 2 line this that is other

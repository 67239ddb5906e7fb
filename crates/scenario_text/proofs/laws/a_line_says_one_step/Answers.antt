use Rattle.scenario_text.proofs.Steps.{says_so, so_says, one_said, said_in_range, none_is_blank, blank_is_none}
use Rattle.scenario_text.proofs.Misfits.{is_misfit}
use Rattle.scenario_text.proofs.MisfitNumbers.{one_number}
use Rattle.scenario_text.proofs.laws.a_line_says_one_step.Goals as goal

pub returns-clause-says : goal.returns-clause-says
returns-clause-says c version line step = (says_so version line step, so_says version line step)

pub returns-clause-one : goal.returns-clause-one
returns-clause-one c = one_said

pub returns-clause-in_range : goal.returns-clause-in_range
returns-clause-in_range c = said_in_range

pub returns-clause-blank : goal.returns-clause-blank
returns-clause-blank c version line = (none_is_blank version line, blank_is_none version line)

pub returns-clause-misfit : goal.returns-clause-misfit
returns-clause-misfit c = is_misfit

pub returns-clause-number : goal.returns-clause-number
returns-clause-number c = one_number

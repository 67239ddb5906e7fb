use Rattle.scenario_lines.proofs.Prelude.{is_in_range, is_found, is_read, is_blank, result_misfit}
use Rattle.scenario_lines.proofs.reading.read_line_over.Goals as goal

pub returns-clause-in_range : goal.returns-clause-in_range
returns-clause-in_range c = is_in_range c.args.version c.args.line.now c.read.result c.read.ensures.reads

pub returns-clause-found : goal.returns-clause-found
returns-clause-found c = is_found c.args.version c.args.line.now c.read.result c.read.ensures.reads

pub returns-clause-only : goal.returns-clause-only
returns-clause-only c = is_read c.args.version c.args.line.now c.read.result c.read.ensures.reads

pub returns-clause-none : goal.returns-clause-none
returns-clause-none c = is_blank c.args.version c.args.line.now c.read.result c.read.ensures.reads

pub returns-clause-misfit : goal.returns-clause-misfit
returns-clause-misfit c k e = result_misfit c.args.version k c.args.line.now c.read.result c.read.ensures.reads e

use Rattle.explain_command.proofs.Prelude.{keeps_itself, prefix_none}
use Rattle.explain_command.proofs.explainer.ExplainerListenerExplainedRows.begin_line.Goals as goal

pub returns-then-is_err-clause-shown : goal.returns-then-is_err-clause-shown
returns-then-is_err-clause-shown g c = prefix_none _ _

pub returns-then-is_err-clause-kept : goal.returns-then-is_err-clause-kept
returns-then-is_err-clause-kept g c = keeps_itself _

pub returns-clause-kept : goal.returns-clause-kept
returns-clause-kept g c = c.tell_line-told.ensures.kept

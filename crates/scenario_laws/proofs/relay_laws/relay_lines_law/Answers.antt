use Rattle.scenario_laws.proofs.Known.Sources.Steps.Prelude.{length, said_of}
use Rattle.scenario_laws.proofs.Legals.{said_legally}
use Rattle.scenario_laws.proofs.relay_laws.relay_lines_law.Goals as goal

pub returns : goal.returns
returns c = λ starts airs lines accepted n bis to within.
    c.relay_law.ensures (length starts) airs (said_of lines) (said_legally c.a_line_says_one_step.ensures.in_range airs starts lines accepted)
    n bis to within

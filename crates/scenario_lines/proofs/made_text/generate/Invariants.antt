use Rattle.scenario_lines.proofs.Prelude.{◌≡◌, ◌++◌, length, generated, text_of}
use Rattle.scenario_lines.proofs.made_text.generate.Given as goal

abbrev pub invariant-lines : goal.invariant-lines
invariant-lines l = l.text ++ text_of l.lines ≡ generated l.fn.seed l.fn.events

abbrev pub decreases-lines : goal.decreases-lines
decreases-lines l = length l.lines

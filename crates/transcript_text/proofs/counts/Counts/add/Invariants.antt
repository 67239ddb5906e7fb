use Rattle.std.proofs.Common.{◌≡◌, length}
use Rattle.transcript_text.specs.CountedLines.{lines_of}
use Rattle.transcript_text.specs.Summary.{with_lines}
use Rattle.transcript_text.proofs.counts.Counts.add.Given as goal

abbrev pub invariant-lines : goal.invariant-lines
invariant-lines l = with_lines l.self (lines_of l.left) ≡ with_lines l.initial.self (lines_of l.text)

abbrev pub decreases-lines : goal.decreases-lines
decreases-lines l = length l.left

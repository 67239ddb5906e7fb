use Rattle.replay_generated.proofs.Prelude.{through, refused}
use Rattle.replay_generated.specs.declared.outcome.Outcome.TheVariants as outcomes
use Rattle.replay_generated.proofs.Promising.{failed_ends, memory_ends, put_ends}
use Rattle.replay_generated.proofs.generated.run.Goals as goal

pub returns-in-Through-clause-ends : goal.returns-in-Through-clause-ends
returns-in-Through-clause-ends g c =
    put_ends c.run_lines.new.counts through outcomes.Done c.put_summary.result (rw c.in-Through.is at c.run_lines.ensures.ran)
    (λ s. s) (λ is. cc) c.put_summary.ensures

pub returns-in-Refused-clause-ends : goal.returns-in-Refused-clause-ends
returns-in-Refused-clause-ends g c =
    put_ends c.run_lines.new.counts (refused c.in-Refused.line c.in-Refused.reason) (outcomes.Refused c.in-Refused.line c.in-Refused.reason)
    c.put_summary-in-Refused.result (rw c.in-Refused.is at c.run_lines.ensures.ran) (λ s. s) (λ is. cc) c.put_summary-in-Refused.ensures

pub returns-in-OutletFault-clause-ends : goal.returns-in-OutletFault-clause-ends
returns-in-OutletFault-clause-ends g c = failed_ends (rw c.in-OutletFault.is at c.run_lines.ensures.ran)

pub returns-clause-ends : goal.returns-clause-ends
returns-clause-ends g c = memory_ends (rw c.in-Memory.is at c.run_lines.ensures.ran)

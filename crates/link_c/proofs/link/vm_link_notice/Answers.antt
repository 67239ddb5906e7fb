use Rattle.link_c.proofs.Prelude.{subst, Result, Ok, Err, NoticeFault, LinkStandsIn}
use Rattle.assistant_machine.specs.declared.fault.NoticeTaken.{NoticeTaken}
use Rattle.link_c.proofs.link.vm_link_notice.Goals as goal

abbrev Taken : Result NoticeTaken NoticeFault → Type 0
Taken (Ok _) = Unit {0}
Taken (Err _) = ⊥

-- a notice that was taken found memory
pub returns-in-Ok-clause-stands : goal.returns-in-Ok-clause-stands
returns-in-Ok-clause-stands c = λ slots calls stands _.
    c.in-Ok.ensures.stands (λ wrong. subst Taken wrong tt) slots calls (subst (LinkStandsIn slots calls) c.lend.ensures.value stands)

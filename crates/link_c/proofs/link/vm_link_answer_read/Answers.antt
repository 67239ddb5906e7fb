use Rattle.link_c.proofs.Prelude.{subst, Result, Ok, Err, NoticeFault, LinkStandsIn}
use Rattle.link_c.proofs.link.vm_link_answer_read.Goals as goal

abbrev Taken : Result (Unit {0}) NoticeFault → Type 0
Taken (Ok _) = Unit {0}
Taken (Err _) = ⊥

-- a value that was taken found memory
pub returns-in-Ok-clause-stands : goal.returns-in-Ok-clause-stands
returns-in-Ok-clause-stands c = λ slots calls stands _.
    c.in-Ok.ensures.stands (λ wrong. subst Taken wrong tt) slots calls (subst (LinkStandsIn slots calls) c.lend.ensures.value stands)

use Rattle.multi_assist.proofs.links.Links.next_notice.Goals as goal

pub returns-in-1-clause-notice : goal.returns-in-1-clause-notice
returns-in-1-clause-notice c = rw c.in-1.is c.next-in-1.ensures.notice

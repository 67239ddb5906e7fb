use Rattle.test_roles.proofs.two_sources.idle.Goals as goal

pub returns-clause-first : goal.returns-clause-first
returns-clause-first c = (c.new.ensures.sources 0).1

pub returns-clause-second : goal.returns-clause-second
returns-clause-second c = (c.new.ensures.sources 1).1

use Rattle.scenario_sink.proofs.Prelude.{◌∙◌}
use Rattle.scenario_sink.proofs.Lent.{asked_so, its_own}
use Rattle.scenario_sink.proofs.on_link.next_read.Goals as goal

pub returns-clause-some : goal.returns-clause-some
returns-clause-some c before is =
    asked_so c.next_read.result c.in_ok-assistant.field-0.now before c.next_read.new.self c.args.link c.args.links.now
    (its_own c.assistant.result c.in_ok-assistant.field-0 before c.in_ok-assistant.was (c.assistant.ensures.value ∙ is)) c.next_read.ensures.lowest c.next_read.ensures.stands

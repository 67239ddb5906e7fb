use Rattle.scenario_sink.proofs.Prelude.{◌∙◌}
use Rattle.scenario_sink.proofs.Lent.{its_own, sent_so}
use Rattle.scenario_sink.proofs.on_link.take_write.Goals as goal

pub returns-clause-some : goal.returns-clause-some
returns-clause-some c before is =
    sent_so c.next_write.result c.in_ok-assistant.field-0.now before c.next_write.new.self c.args.link c.args.links.now
    (its_own c.assistant.result c.in_ok-assistant.field-0 before c.in_ok-assistant.was (c.assistant.ensures.value ∙ is)) c.next_write.ensures.write c.next_write.ensures.stands

use Rattle.sink_c.proofs.Prelude.{ap, subst, ◌∙◌, KeptStands}
use Rattle.c_values.specs.Numbers.{reply_c}
use Rattle.sink_c.proofs.sink.vm_sink_write.Goals as goal

pub returns-in-Ok-clause-answer : goal.returns-in-Ok-clause-answer
returns-in-Ok-clause-answer c = λ setup calls stands _.
    c.reply_for_c.ensures ∙ ap reply_c (c.in-Ok.ensures.answer setup calls (subst (KeptStands setup calls) c.lend.ensures.value stands))

use Rattle.scenario_sink.proofs.Prelude.{◌≡◌, ◌++◌, refl, ◌∙◌, ap, err_from_is_err_and, forged_line}
use Rattle.assistant_machine.specs.Answers.{answer_of}
use Rattle.scenario_sink.proofs.Calls.{Here, forges, here, its_answer, its_assistant}
use Rattle.scenario_sink.proofs.Forging.{its_answer as the_answer}
use Rattle.scenario_sink.proofs.Printing.{one_put}
use Rattle.scenario_sink.proofs.sink.LinkedSink.forge.Goals as goal

pub returns : goal.returns
returns c source history lives =
    let old = c.args.self.now in
    let h : Here 0 history old.links = here 0 history old.delegator old.links lives.stands lives.stands.took.first in
    let assistant = its_assistant 0 history old.links h in
    let held = c.wants_memory.ensures c.if-wants_memory.false in
    let answer : c.take_notice-answer.result ≡ answer_of history.made.setup.slots history.made.mtu c.args.slot c.args.octets.now =
    the_answer c.take_notice-answer.result _ held (c.take_notice-answer.ensures.answer h.on.assistant assistant) (c.take_notice-answer.ensures.cause h.on.assistant assistant)
    ∙ its_answer 0 history old.links h c.args.slot c.args.octets.now in (
      refl,
      record {
        stands = forges c.links_law.ensures.apart c.args.slot c.args.octets.now history old.delegator old.links _ lives.stands (c.take_notice-answer.ensures.takes h.on.assistant assistant held);
        source_is = lives.source_is;
      },
      one_put c.args.text.now c.put_forged.new.text _ (c.in_ok-put_forged.ensures ∙ ap (λ result. c.args.text.now ++ forged_line c.args.sink result) answer),
    )

pub returns-then-wants_memory : goal.returns-then-wants_memory
returns-then-wants_memory c source history lives = (refl, tt)

pub returns-in_err-put_forged : goal.returns-in_err-put_forged
returns-in_err-put_forged c source history lives = let p = err_from_is_err_and c.from_residual.result c.from_residual.ensures.1 in rw (p.1, p.2) (refl, tt)

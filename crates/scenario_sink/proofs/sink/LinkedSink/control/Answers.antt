use Rattle.scenario_sink.proofs.Prelude.{◌++◌, refl, ◌∙◌, ap, err_from_is_err_and, Snapshot, stepped, control_words, sink_line}
use Rattle.delegator_history.specs.Controls.{control_heard}
use Rattle.delegator_history.specs.States.{control_heard as controlled}
use Rattle.scenario_sink.proofs.Printing.{one_put}
use Rattle.scenario_sink.proofs.Stands.{steps}
use Rattle.scenario_sink.proofs.Untold.{its_snapshot}
use Rattle.scenario_sink.proofs.sink.LinkedSink.control.Goals as goal

pub returns : goal.returns
returns c source history lives =
    let took = lives.stands.took in
    let heard = c.in_ok-heard.ensures.answer history.made.setup took.taken took.stands
    ∙ ap (λ (s : Snapshot). control_heard s.place c.args.octets.now) (its_snapshot history c.args.self.now.delegator c.args.self.now.links took) in (
      refl,
      record {
        stands = c.in_ok-gather.ensures.stands (stepped (controlled c.args.octets.now)) history (steps (controlled c.args.octets.now) history c.args.self.now.delegator _ _ refl tt lives.stands
            (c.in_ok-heard.ensures.stands history.made.setup took.taken took.stands) c.control.ensures.settings);
        source_is = c.gather.ensures.source ∙ lives.source_is;
      },
      one_put c.args.text.now c.put_control_heard.new.text _
          (c.in_ok-put_control_heard.ensures ∙ ap (λ answer. c.args.text.now ++ sink_line c.args.sink (control_words answer)) heard),
    )

pub returns-in_err-heard : goal.returns-in_err-heard
returns-in_err-heard c source history lives = let p = err_from_is_err_and c.from_residual.result c.from_residual.ensures.1 in rw (p.1, p.2) (refl, tt)

pub returns-in_err-gather : goal.returns-in_err-gather
returns-in_err-gather c source history lives = let p = err_from_is_err_and c.from_residual-in_err-gather.result c.from_residual-in_err-gather.ensures.1 in rw (p.1, p.2) (refl, tt)

pub returns-in_err-put_control_heard : goal.returns-in_err-put_control_heard
returns-in_err-put_control_heard c source history lives = let p = err_from_is_err_and c.from_residual-in_err-put_control_heard.result c.from_residual-in_err-put_control_heard.ensures.1 in rw (p.1, p.2) (refl, tt)

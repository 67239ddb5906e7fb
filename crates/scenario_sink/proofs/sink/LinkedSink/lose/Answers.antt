use Rattle.scenario_sink.proofs.Prelude.{refl, ◌∙◌, err_from_is_err_and, train_lost, stepped}
use Rattle.scenario_sink.proofs.Printing.{one_put}
use Rattle.scenario_sink.proofs.Stands.{steps}
use Rattle.scenario_sink.proofs.sink.LinkedSink.lose.Goals as goal

pub returns : goal.returns
returns c source history lives =
    let took = lives.stands.took in (
      refl,
      record {
        stands = c.in_ok-gather.ensures.stands (stepped train_lost) history (steps train_lost history c.args.self.now.delegator _ _ refl tt lives.stands
            (c.in_ok-lost.ensures.stands history.made.setup took.taken took.stands) c.lost.ensures.settings);
        source_is = c.gather.ensures.source ∙ lives.source_is;
      },
      one_put c.args.text.now c.put_idle.new.text _ c.in_ok-put_idle.ensures,
    )

pub returns-in_err-lost : goal.returns-in_err-lost
returns-in_err-lost c source history lives = let p = err_from_is_err_and c.from_residual.result c.from_residual.ensures.1 in rw (p.1, p.2) (refl, tt)

pub returns-in_err-gather : goal.returns-in_err-gather
returns-in_err-gather c source history lives = let p = err_from_is_err_and c.from_residual-in_err-gather.result c.from_residual-in_err-gather.ensures.1 in rw (p.1, p.2) (refl, tt)

pub returns-in_err-put_idle : goal.returns-in_err-put_idle
returns-in_err-put_idle c source history lives = let p = err_from_is_err_and c.from_residual-in_err-put_idle.result c.from_residual-in_err-put_idle.ensures.1 in rw (p.1, p.2) (refl, tt)

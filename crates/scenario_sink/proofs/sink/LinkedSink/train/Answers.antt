use Rattle.scenario_sink.proofs.Prelude.{◌++◌, ◌∙◌, refl, ap, err_from_is_err_and, sink_line, train_words}
use Rattle.scenario_sink.proofs.Printing.{one_put}
use Rattle.scenario_sink.proofs.sink.LinkedSink.train.Goals as goal

pub returns : goal.returns
returns c source history from lives = (
  refl,
  c.in_ok-heard.ensures.lives source history from lives,
  one_put c.args.text.now c.put_train_heard.new.text _
      (c.in_ok-put_train_heard.ensures ∙ ap (λ heard. c.args.text.now ++ sink_line c.args.sink (train_words heard)) (c.in_ok-heard.ensures.answer source history from lives)),
)

pub returns-in_err-heard : goal.returns-in_err-heard
returns-in_err-heard c source history from lives = let p = err_from_is_err_and c.from_residual.result c.from_residual.ensures.1 in rw (p.1, p.2) (refl, tt)

pub returns-in_err-put_train_heard : goal.returns-in_err-put_train_heard
returns-in_err-put_train_heard c source history from lives = let p = err_from_is_err_and c.from_residual-in_err-put_train_heard.result c.from_residual-in_err-put_train_heard.ensures.1 in rw (p.1, p.2) (refl, tt)

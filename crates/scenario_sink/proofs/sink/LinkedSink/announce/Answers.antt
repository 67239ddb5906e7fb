use Rattle.scenario_sink.proofs.Prelude.{◌++◌, ◌∙◌, refl, sym, ap, subst, err_from_is_err_and, answer_of, outcome_by, snapshot_in, sink_line, train_line, train_words, IsSink}
use Rattle.scenario_sink.proofs.Printing.{two_put}
use Rattle.scenario_sink.proofs.Trained.{after_train, announced_train}
use Rattle.scenario_sink.proofs.sink.LinkedSink.announce.Goals as goal

pub returns : goal.returns
returns c source history from announced lives =
    let train = announced_train source c.args.train.now c.as_slice-ext.result.now c.as_slice-adv.result.now c.as_slice-acad.result.now announced
    c.as_slice-ext.ensures c.as_slice-adv.ensures c.as_slice-acad.ensures in (
      refl,
      subst (λ t. IsSink (after_train source t history) c.hear_train.new.self) train (c.in_ok-heard.ensures.lives source history from lives),
      two_put c.args.text.now c.put_train.new.text c.put_train_heard.new.text _ _
          (c.in_ok-put_train.ensures ∙ ap (λ t. c.args.text.now ++ train_line c.args.sink t) (sym announced))
          (c.in_ok-put_train_heard.ensures ∙ ap (λ heard. c.put_train.new.text ++ sink_line c.args.sink (train_words heard))
          (c.in_ok-heard.ensures.answer source history from lives ∙ ap (λ t. answer_of (outcome_by history.made.setup (snapshot_in history.made history.calls_made) t)) train)),
    )

pub returns-in_err-put_train : goal.returns-in_err-put_train
returns-in_err-put_train c source history from announced lives = let p = err_from_is_err_and c.from_residual.result c.from_residual.ensures.1 in rw (p.1, p.2) (refl, tt)

pub returns-in_err-heard : goal.returns-in_err-heard
returns-in_err-heard c source history from announced lives = let p = err_from_is_err_and c.from_residual-in_err-heard.result c.from_residual-in_err-heard.ensures.1 in rw (p.1, p.2) (refl, tt)

pub returns-in_err-put_train_heard : goal.returns-in_err-put_train_heard
returns-in_err-put_train_heard c source history from announced lives = let p = err_from_is_err_and c.from_residual-in_err-put_train_heard.result c.from_residual-in_err-put_train_heard.ensures.1 in rw (p.1, p.2) (refl, tt)

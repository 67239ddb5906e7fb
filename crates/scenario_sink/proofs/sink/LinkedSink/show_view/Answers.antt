use Rattle.scenario_sink.proofs.Prelude.{◌∷◌, ◌++◌, [], ◌∙◌, ap, codes, decimal, value_line}
use Rattle.scenario_sink.proofs.Shown.{with_value}
use Rattle.scenario_sink.proofs.sink.LinkedSink.show_view.Goals as goal

pub returns-clause-shows : goal.returns-clause-shows
returns-clause-shows c history lives on = (
  c.in_ok-view.ensures.lives history lives,
  c.in_ok-put_link_view.ensures
      ∙ ap (λ octets. c.args.text.now ++ value_line (codes "aview") (decimal c.args.sink ∷ decimal c.args.link ∷ []) (with_value c.args.slot octets))
      (c.as_slice.ensures ∙ c.in_ok-view.ensures.answer history lives on),
)

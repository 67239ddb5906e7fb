use Rattle.scenario_sink.proofs.Prelude.{◌∙◌, ap, value_at}
use Rattle.scenario_sink.proofs.Shown.{slot_shown}
use Rattle.scenario_sink.proofs.Untold.{its_snapshot}
use Rattle.scenario_sink.proofs.sink.LinkedSink.show_slot.Goals as goal

pub returns-clause-shows : goal.returns-clause-shows
returns-clause-shows c history lives =
    let took = lives.stands.took in (
      c.in_ok-view.ensures.lives history lives,
      slot_shown history c.args.sink c.args.slot c.as_slice.result.now c.as_slice-2.result.now c.args.text.now c.put_state.new.text c.put_view.new.text
          (c.as_slice.ensures ∙ c.in_ok-state.ensures.value history.made.setup took.taken took.stands ∙ ap (λ s. value_at s c.args.slot) (its_snapshot history _ _ took))
          (c.as_slice-2.ensures ∙ c.in_ok-view.ensures.answer history lives took.first) c.in_ok-put_state.ensures c.in_ok-put_view.ensures,
    )

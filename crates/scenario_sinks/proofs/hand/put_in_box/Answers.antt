use Rattle.scenario_sinks.proofs.Prelude.{◌∙◌, ap, Err}
use Rattle.scenario_sinks.proofs.Handings.{box_wanted}
use Rattle.scenario_sinks.proofs.hand.put_in_box.Goals as goal

pub returns-in-Err-Memory-clause-takes : goal.returns-in-Err-Memory-clause-takes
returns-in-Err-Memory-clause-takes g c = box_wanted _ _ _ _ _ c.take_at.ensures.took (c.in-Err-Memory.is ∙ ap Err c.in-Err-Memory.field-0-is)

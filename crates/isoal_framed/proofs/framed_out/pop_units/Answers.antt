use Rattle.isoal_framed.proofs.Prelude.{ap, drop, ◌∙◌, drop-drop}
use Rattle.isoal_framed.proofs.framed_out.pop_units.Goals as goal

pub units-preserved : goal.units-preserved
units-preserved c = c.pop_unit.ensures ∙ ap (drop 1) c.units.invariant ∙ drop-drop 1 c.units.counter c.args.queue.now.items

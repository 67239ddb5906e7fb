use Rattle.scenario_lines.proofs.Prelude.{ap, arith, drop_all}
use Rattle.scenario_lines.proofs.Putting.{item_first, piece_put, pieces_put, wishes_in_turn, wishes_left, written_wishes}
use Rattle.scenario_lines.proofs.wishes.put_wishes.Goals as goal

pub wishes-preserved : goal.wishes-preserved
wishes-preserved c =
    piece_put (wishes_left c.args.wishes.now) _ _ c.wishes.line _ _ _ (item_first written_wishes wishes_in_turn c.args.wishes.now c.wishes.i _ c.item.ensures) c.wishes.invariant
    c.in_ok-put_wish.ensures

pub returns : goal.returns
returns c = pieces_put (wishes_left c.args.wishes.now) _ _ _ c.wishes.i (ap written_wishes (drop_all c.wishes.i c.args.wishes.now (omega arith))) c.wishes.invariant

use Rattle.base_grammar.proofs.Prelude.{subgroup}
use Rattle.base_grammar.proofs.Sizes.{no_room, none_if}
use Rattle.base_grammar.proofs.room.behind_subgroups.Goals as goal

pub returns-in_err-left : goal.returns-in_err-left
returns-in_err-left c =
    none_if c.from_residual.result _ _ c.from_residual.ensures
    (no_room subgroup c.args.subgroups.now c.loop-subgroup.subgroup-index c.args.room c.loop-subgroup.left c.subgroup-item.result c.loop-subgroup-test.true c.subgroup-item.is
    c.loop-subgroup.invariant c.in_err-left.ensures)

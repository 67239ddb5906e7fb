use Rattle.base_grammar.proofs.Prelude.{arith, subgroup}
use Rattle.base_grammar.proofs.Sizes.{subgroups_few, item_small}
use Rattle.base_grammar.proofs.writing.put_fields.Goals as goal

pub overflow_cast-subgroups : goal.overflow_cast-subgroups
overflow_cast-subgroups c = omega (arith, subgroups_few c.args.subgroups.now, c.requires.few)

pub put_subgroup-requires : goal.put_subgroup-requires
put_subgroup-requires c =
    item_small subgroup c.args.subgroups.now c.loop-subgroup.subgroup-index 252 c.subgroup-item.result c.loop-subgroup-test.true c.subgroup-item.is
    (omega (arith, c.requires.few))

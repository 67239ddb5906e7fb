use Rattle.delegator_control.proofs.Prelude.{drop, length, append_assoc, subgroup, groups_laid, arith}
use Rattle.delegator_control.proofs.Encoded.{metadata_at, one_laid}
use Rattle.delegator_control.proofs.values.put_group.Goals as goal

pub put_subgroup-requires : goal.put_subgroup-requires
put_subgroup-requires c = grind (arith, length, metadata_at)

pub returns : goal.returns
returns c = grind (arith, groups_laid, drop, append_assoc, subgroup, one_laid)

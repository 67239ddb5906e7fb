use Rattle.scenario_sources.proofs.Prelude.{arith, are_read}
use Rattle.scenario_sources.proofs.Drafts.{opens, opens_not}
use Rattle.scenario_sources.proofs.basing.open_subgroup.Goals as goal

pub returns-in-Ok : goal.returns-in-Ok
returns-in-Ok c version own is = grind (arith, opens)

pub returns-in-Err : goal.returns-in-Err
returns-in-Err c version own is = grind (arith, opens_not)

pub subgroup-requires : goal.subgroup-requires
subgroup-requires c is_list = are_read c.args.config.now (λ i. omega (arith, c.type_inv.config i)) c.requires

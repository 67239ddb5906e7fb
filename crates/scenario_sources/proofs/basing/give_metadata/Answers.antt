use Rattle.scenario_sources.proofs.Prelude.{refl, arith, are_read}
use Rattle.scenario_sources.proofs.Drafts.{gives_metadata, gives_no_metadata}
use Rattle.scenario_sources.proofs.basing.give_metadata.Goals as goal

pub returns-in-Ok : goal.returns-in-Ok
returns-in-Ok c version own is =
    gives_metadata version own c.args.metadata.now c.in-Described.described _ (rw c.in-Described.is at is) (record { info = refl; origin = refl; delay = refl; identity = refl })
    c.in-Ok.ensures.refuses c.in-Ok.ensures.ok

pub returns-in-Err : goal.returns-in-Err
returns-in-Err c version own is = grind (arith, gives_no_metadata)

pub metadata-requires : goal.metadata-requires
metadata-requires c = are_read c.args.metadata.now (λ i. omega (arith, c.type_inv.metadata i)) c.requires

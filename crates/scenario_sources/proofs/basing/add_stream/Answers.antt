use Rattle.scenario_sources.proofs.Prelude.{refl, arith, are_read}
use Rattle.scenario_sources.proofs.Drafts.{adds, adds_beyond, adds_early, adds_not, list_for, some_then}
use Rattle.scenario_sources.proofs.basing.add_stream.Goals as goal

pub returns-then-not-has_subgroup : goal.returns-then-not-has_subgroup
returns-then-not-has_subgroup c version own is = grind (arith, adds_early)

pub returns-then-is_beyond : goal.returns-then-is_beyond
returns-then-is_beyond c version own is = grind (arith, adds_beyond, some_then)

pub bis-requires : goal.bis-requires
bis-requires c = grind (arith, list_for, are_read)

pub returns-in-Ok : goal.returns-in-Ok
returns-in-Ok c version own is =
    adds version own c.args.bis c.get.result c.args.config.now c.in-Described.described _ (rw c.in-Described.is at is)
    (record { info = refl; origin = refl; delay = refl; identity = refl }) (some_then c.has_subgroup.result _ c.has_subgroup.ensures c.if-not-has_subgroup.false)
    c.get.ensures.same c.if-is_beyond.false c.in-Ok.ensures.refuses c.in-Ok.ensures.ok

pub returns-in-Err : goal.returns-in-Err
returns-in-Err c version own is = grind (arith, adds_not, some_then)

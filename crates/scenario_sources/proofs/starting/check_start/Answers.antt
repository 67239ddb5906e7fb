use Rattle.scenario_sources.proofs.Prelude.{◌≤◌, arith}
use Rattle.scenario_sources.proofs.Starts.{identity_is, may_start_plain, may_start_said, start_bad, start_bare, start_long}
use Rattle.scenario_sources.proofs.starting.check_start.Goals as goal

pub returns-then-is_last_bare-clause-ready : goal.returns-then-is_last_bare-clause-ready
returns-then-is_last_bare-clause-ready c version first own h is = grind (arith, start_bare)

pub returns-in-Some-clause-ready : goal.returns-in-Some-clause-ready
returns-in-Some-clause-ready c version first own h is =
    start_bad version first c.args.limits.horizon own c.in-Described.described c.is_last_bare.result c.in-Some.reason h (rw c.in-Described.is at is) c.is_last_bare.ensures
    c.if-is_last_bare.false c.in-Some.ensures.refusal

pub returns-then-is_too_long-clause-ready : goal.returns-then-is_too_long-clause-ready
returns-then-is_too_long-clause-ready c version first own h is =
    start_long version first c.args.limits.horizon own c.in-Described.described c.is_last_bare.result c.is_too_long.result h (rw c.in-Described.is at is) c.is_last_bare.ensures
    c.if-is_last_bare.false c.in-None.ensures.refusal c.is_too_long.ensures c.if-is_too_long.true

pub returns-then-has_subgroup-clause-ready : goal.returns-then-has_subgroup-clause-ready
returns-then-has_subgroup-clause-ready c version first own h is =
    let here = rw c.in-Described.is at is in (
      may_start_said version first c.args.limits.horizon own c.in-Described.described c.is_last_bare.result c.is_too_long.result c.has_subgroup.result h here c.is_last_bare.ensures
          c.if-is_last_bare.false c.in-None.ensures.refusal c.is_too_long.ensures c.if-is_too_long.false c.has_subgroup.ensures c.if-has_subgroup.true,
      identity_is own c.in-Described.described c.identity_or-identity.result here.1 c.identity_or-identity.ensures,
    )

pub returns-in-Ok-clause-ready : goal.returns-in-Ok-clause-ready
returns-in-Ok-clause-ready c version first own h is =
    let here = rw c.in-Described.is at is in
    let few : c.in-Described.described.info.num_bis ≤ 31 = omega (arith, c.in-Described.described.widths.num_bis) in (
      may_start_plain version first c.args.limits.horizon own c.in-Described.described c.is_last_bare.result c.has_subgroup.result c.in-Ok.base few h here c.is_last_bare.ensures
          c.if-is_last_bare.false c.in-None.ensures.refusal c.has_subgroup.ensures c.if-has_subgroup.false c.in-Ok.ensures,
      identity_is own c.in-Described.described c.identity_or-identity.result here.1 c.identity_or-identity.ensures,
    )

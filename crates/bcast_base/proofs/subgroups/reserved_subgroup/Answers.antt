use Rattle.bcast_base.proofs.Prelude.{arith, ◌∙◌, sym, Subgroup}
use Rattle.bcast_base.proofs.Groups.{unreserved_next, reserved_here, unreserved_short, unreserved_end, subgroup_shorter}
use Rattle.bcast_base.proofs.subgroups.reserved_subgroup.Goals as goal

pub returns-in_default : goal.returns-in_default
returns-in_default c = unreserved_short c.args.whole.now c.args.count c.subgroups.counter c.subgroups.rest.now _ c.subgroups-test.true c.in_default.ensures c.subgroups.invariant.1

pub returns-then-are_reserved : goal.returns-then-are_reserved
returns-then-are_reserved c =
    let group : Subgroup = record { bits = c.in-Some.group.bits; metadata = c.in-Some.group.metadata.now } in
    rw c.place_of.ensures (reserved_here c.args.whole.now c.args.count c.subgroups.counter c.subgroups.rest.now group c.in-Some.after.now _ c.subgroups-test.true c.in-Some.ensures
    (sym c.are_reserved.ensures ∙ c.if-are_reserved.true) c.subgroups.invariant.1)

pub subgroups-preserved : goal.subgroups-preserved
subgroups-preserved c =
    let group : Subgroup = record { bits = c.in-Some.group.bits; metadata = c.in-Some.group.metadata.now } in (
      omega (arith, subgroup_shorter c.subgroups.rest.now group c.in-Some.after.now c.in-Some.ensures),
      unreserved_next c.args.whole.now c.args.count c.subgroups.counter c.subgroups.rest.now group c.in-Some.after.now _ c.subgroups-test.true c.in-Some.ensures
          (sym c.are_reserved.ensures ∙ c.if-are_reserved.false) c.subgroups.invariant.1,
    )

pub returns : goal.returns
returns c = unreserved_end c.args.whole.now c.args.count c.subgroups.counter c.subgroups.rest.now _ c.subgroups-test.false c.subgroups.invariant.1

use Rattle.bass_operations.proofs.Prelude.{arith, sym, ◌∙◌, true, false, Subgroup}
use Rattle.bass_operations.proofs.Loops.{named_next, named_short, named_end}
use Rattle.bass_operations.proofs.scanning.times_named.Goals as goal
use Rattle.bass_operations.proofs.scanning.times_named.Goals.{then-names, else-names}

pub returns-in_default : goal.returns-in_default
returns-in_default c = named_short c.args.bis c.subgroups.times c.args.count c.subgroups.counter c.subgroups.rest.now _ c.subgroups-test.true c.in_default.ensures c.subgroups.invariant.0

pub subgroups-preserved : goal.subgroups-preserved
subgroups-preserved c =
    let group : Subgroup = record { bits = c.in-Some.group.bits; metadata = c.in-Some.group.metadata.now } in
    elim c.if-names.branch [
      | then-names w ↦ (
        rw w.times-is (named_next c.args.bis c.subgroups.times c.args.count c.subgroups.counter c.subgroups.rest.now group c.in-Some.after.now _ true c.subgroups-test.true
            c.in-Some.ensures (sym c.names.ensures ∙ w.if-names.true) c.subgroups.invariant.0),
        omega arith,
      )
      | else-names w ↦ (
        let same = named_next c.args.bis c.subgroups.times c.args.count c.subgroups.counter c.subgroups.rest.now group c.in-Some.after.now _ false c.subgroups-test.true c.in-Some.ensures
            (sym c.names.ensures ∙ w.if-names.false) c.subgroups.invariant.0 in omega arith,
        omega arith,
      )
    ]

pub returns : goal.returns
returns c = named_end c.args.bis c.subgroups.times c.args.count c.subgroups.counter c.subgroups.rest.now _ c.subgroups-test.false c.subgroups.invariant.0

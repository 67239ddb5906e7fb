use Rattle.bass_operations.proofs.Prelude.{◌≡◌, ◌+◌, ◌<◌, ◌≤◌, ◌∙◌, ◌++◌, ◌∷◌, [], List, take, take_all, ap, Some, arith, Subgroup, Wish, wish_of}
use Rattle.bass_operations.proofs.Loops.{read_next, read_never, read_end}
use Rattle.bass_operations.proofs.scanning.read_wishes.Goals as goal

pub unreachable-requires : goal.unreachable-requires
unreachable-requires c =
    let more : c.subgroups.place < c.args.count = omega arith in
    read_never (take c.subgroups.place c.subgroups.wishes) c.args.count c.subgroups.place c.subgroups.rest.now _ more c.in_default.ensures c.subgroups.invariant.read c.requires

pub subgroups-preserved : goal.subgroups-preserved
subgroups-preserved c =
    let more : c.subgroups.place < c.args.count = omega arith in
    let group : Subgroup = record { bits = c.in-Some.group.bits; metadata = c.in-Some.group.metadata.now } in
    let put : take (c.subgroups.place + 1) c.put_wish.new.wishes ≡ take c.subgroups.place c.subgroups.wishes ++ wish_of group ∷ [] = c.in_ok-put_wish.ensures.put in
    record {
      read =
          rw put (read_next (take c.subgroups.place c.subgroups.wishes) c.args.count c.subgroups.place c.subgroups.rest.now group c.in-Some.after.now _ more c.in-Some.ensures
          c.subgroups.invariant.read);
      some = omega (arith, c.in_ok-put_wish.ensures.count);
      most = omega (arith, c.in_ok-put_wish.ensures.count);
    }

pub returns-clause-gives : goal.returns-clause-gives
returns-clause-gives c =
    let done : c.args.count ≤ c.subgroups.place = omega arith in
    read_end (take c.subgroups.place c.subgroups.wishes) c.args.count c.subgroups.place c.subgroups.rest.now _ done c.subgroups.invariant.read c.requires
    ∙ ap (λ (wishes : List Wish). Some wishes) (take_all c.subgroups.place c.subgroups.wishes (omega arith))

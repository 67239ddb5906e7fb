use Rattle.receive_state.proofs.Prelude.{◌≡◌, ◌++◌, ◌∷◌, [], List, GroupState, Subgroup, state_of_group, arith, ◌+◌, ◌<◌, ◌≤◌, take, ap, ◌∙◌, Some, take_all, length, groups_of, length-take}
use Rattle.receive_state.proofs.Loops.{read_next, read_never, read_end}
use Rattle.receive_state.proofs.groups.read_groups.Goals as goal

pub unreachable-requires : goal.unreachable-requires
unreachable-requires c =
    let more : c.groups.place < c.args.count = omega arith in
    read_never (take c.groups.place c.groups.groups) c.args.count c.groups.place c.groups.rest.now c.args.octets.now more c.in_default.ensures
    c.groups.invariant.read c.requires

pub groups-preserved : goal.groups-preserved
groups-preserved c =
    let more : c.groups.place < c.args.count = omega arith in
    let group : Subgroup = record { bits = c.in-Some.group.bits; metadata = c.in-Some.group.metadata.now } in
    let put : take (c.groups.place + 1) c.put_group.new.groups ≡ take c.groups.place c.groups.groups ++ state_of_group group ∷ [] = c.in_ok-put_group.ensures.put in
    record {
      read =
          rw put (read_next (take c.groups.place c.groups.groups) c.args.count c.groups.place c.groups.rest.now group c.in-Some.after.now _ more c.in-Some.ensures
          c.groups.invariant.read);
      some = omega (arith, c.in_ok-put_group.ensures.count);
      most = omega (arith, c.in_ok-put_group.ensures.count);
    }

pub returns-clause-ok : goal.returns-clause-ok
returns-clause-ok c =
    let done : c.args.count ≤ c.groups.place = omega arith in
    read_end (take c.groups.place c.groups.groups) c.args.count c.groups.place c.groups.rest.now _ done c.groups.invariant.read
    ∙ ap (λ (groups : List GroupState). Some groups) (take_all c.groups.place c.groups.groups (omega arith))

pub groups-init : goal.groups-init
groups-init c =
    let most : length c.truncate.new.self ≤ c.args.count = omega (arith, ap length c.truncate.ensures, length-take c.from-most.result c.args.groups.now) in
    record { read = grind (arith, groups_of); some = omega arith; most = most }

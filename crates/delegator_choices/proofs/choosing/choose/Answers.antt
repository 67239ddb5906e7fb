use Rattle.delegator_choices.proofs.Prelude.{◌+◌, ◌<◌, ◌^◌, ℕ, List, take, sym, subst, refl, arith, pow_pos, candidates}
use Rattle.delegator_choices.proofs.Candidates.{candidates_next, candidates_of, candidates_small, left_at, part_of, past_subgroups, past_wishes}
use Rattle.delegator_choices.proofs.Taken.{chooses_next, set_below, taken_below}
use Rattle.delegator_choices.proofs.choosing.choose.Goals as goal

pub take_of-taking-requires : goal.take_of-taking-requires
take_of-taking-requires c = record {
  greatest = c.requires;
  part = λ bis stands. part_of c.args.base.now.subgroups c.subgroups.place c.subgroup.result.now bis c.subgroup.ensures stands;
}

pub push-requires : goal.push-requires
push-requires c =
    let streams : List ℕ = candidates c.args.capability.now c.args.base.now c.args.num_bis c.item.result.now.bis_sync c.subgroup.result.now in
    subst (λ bits. bits < 2 ^ 31) (sym c.take_of-taking.ensures.bits) (set_below 31 0 (take c.subgroups.room streams) (pow_pos 31)
    (taken_below 31 c.subgroups.room streams
    (candidates_small c.args.capability.now c.args.base.now c.args.num_bis c.item.result.now.bis_sync c.subgroup.result.now c.requires)))

pub subgroups-preserved : goal.subgroups-preserved
subgroups-preserved c =
    let left : ℕ → List (List ℕ) = left_at c.args.capability.now c.args.base.now c.args.num_bis c.args.wishes.now in
    chooses_next (candidates_of c.args.capability.now c.args.base.now c.args.num_bis c.args.wishes.now c.args.base.now.subgroups) c.args.streams
    (left c.subgroups.place) (left (c.subgroups.place + 1)) c.subgroups.room c.subgroups.which c.subgroups.bits c.push.new.self
    (candidates c.args.capability.now c.args.base.now c.args.num_bis c.item.result.now.bis_sync c.subgroup.result.now)
    (record { room = c.subgroups.room; which = c.subgroups.which; bits = 0 }) c.take_of-taking.result
    (candidates_next c.args.capability.now c.args.base.now c.args.num_bis c.subgroups.place c.args.wishes.now c.args.base.now.subgroups c.item.result.now
    c.subgroup.result.now c.item.ensures c.subgroup.ensures)
    refl refl refl c.take_of-taking.ensures c.in_ok-push.ensures.ok c.subgroups.invariant

pub returns-then-place-count-clause-bits : goal.returns-then-place-count-clause-bits
returns-then-place-count-clause-bits c =
    (past_subgroups c.args.capability.now c.args.base.now c.args.num_bis c.args.streams c.args.wishes.now c.subgroups.place c.subgroups.room c.subgroups.which c.subgroups.bits
    (omega (arith, c.if-place-count.true, c.count.ensures.same)) c.subgroups.invariant).bits_are

pub returns-then-place-count-clause-which : goal.returns-then-place-count-clause-which
returns-then-place-count-clause-which c =
    (past_subgroups c.args.capability.now c.args.base.now c.args.num_bis c.args.streams c.args.wishes.now c.subgroups.place c.subgroups.room c.subgroups.which c.subgroups.bits
    (omega (arith, c.if-place-count.true, c.count.ensures.same)) c.subgroups.invariant).which_is

pub returns-then-place-count-clause-within : goal.returns-then-place-count-clause-within
returns-then-place-count-clause-within c =
    (past_subgroups c.args.capability.now c.args.base.now c.args.num_bis c.args.streams c.args.wishes.now c.subgroups.place c.subgroups.room c.subgroups.which c.subgroups.bits
    (omega (arith, c.if-place-count.true, c.count.ensures.same)) c.subgroups.invariant).which_within

pub returns-clause-bits : goal.returns-clause-bits
returns-clause-bits c =
    (past_wishes c.args.capability.now c.args.base.now c.args.num_bis c.args.streams c.args.wishes.now c.subgroups.place c.subgroups.room c.subgroups.which c.subgroups.bits
    (omega (arith, c.subgroups-test.false, c.count-place-end.ensures.same)) c.subgroups.invariant).bits_are

pub returns-clause-which : goal.returns-clause-which
returns-clause-which c =
    (past_wishes c.args.capability.now c.args.base.now c.args.num_bis c.args.streams c.args.wishes.now c.subgroups.place c.subgroups.room c.subgroups.which c.subgroups.bits
    (omega (arith, c.subgroups-test.false, c.count-place-end.ensures.same)) c.subgroups.invariant).which_is

pub returns-clause-within : goal.returns-clause-within
returns-clause-within c =
    (past_wishes c.args.capability.now c.args.base.now c.args.num_bis c.args.streams c.args.wishes.now c.subgroups.place c.subgroups.room c.subgroups.which c.subgroups.bits
    (omega (arith, c.subgroups-test.false, c.count-place-end.ensures.same)) c.subgroups.invariant).which_within

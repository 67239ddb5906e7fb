use Rattle.scenario_words.proofs.Prelude.{◌≡◌, ◌≢◌, ◌<◌, [], true, false, arith, err_from_is_err_and}
use Rattle.scenario_words.proofs.Streams.{no_words}
use Rattle.scenario_words.proofs.PairGroups.{group_read, group_fails, groups_end, groups_full}
use Rattle.scenario_words.proofs.cursor.Cursor.groups.Goals as goal

pub returns-then-count-eq-MOST_WISHES-clause-gives : goal.returns-then-count-eq-MOST_WISHES-clause-gives
returns-then-count-eq-MOST_WISHES-clause-gives c =
    groups_full c.pairs.count c.pairs.groups c.pairs.self c.args.self.now c.pairs.invariant.so_far c.if-count-eq-MOST_WISHES.true

pub returns-in_err-group-clause-fault : goal.returns-in_err-group-clause-fault
returns-in_err-group-clause-fault c =
    let more : c.pairs.self.words ≢ [] = c.has_more.ensures.0 c.pairs-test.true in
    let few : c.pairs.count < 31 = omega arith in
    let p = err_from_is_err_and c.from_residual.result c.from_residual.ensures.1 in
    rw (p.1, p.2) (group_fails c.pairs.count c.pairs.groups c.pairs.self c.args.self.now c.in_err-group.field-0.0 c.pairs.invariant.so_far few more c.in_err-group.ensures.fault)

pub pairs-preserved : goal.pairs-preserved
pairs-preserved c =
    let more : c.pairs.self.words ≢ [] = c.has_more.ensures.0 c.pairs-test.true in
    let few : c.pairs.count < 31 = omega arith in
    record {
      few = omega arith;
      some = λ _. c.pairs.invariant.some more;
      so_far = group_read c.pairs.count c.pairs.groups c.group.new.groups c.pairs.self c.group.new.self c.args.self.now c.pairs.invariant.so_far few more c.in_ok-group.ensures.gives;
    }

pub returns-clause-gives : goal.returns-clause-gives
returns-clause-gives c =
    let none : c.pairs.self.words ≡ [] =
    no_words c.pairs.self.words (λ some. let is : c.has_more.result ≡ true = c.has_more.ensures.1 some in let not : c.has_more.result ≡ false = c.pairs-test.false in cc) in
    groups_end c.pairs.count c.pairs.groups c.pairs.self c.args.self.now c.pairs.invariant.so_far none

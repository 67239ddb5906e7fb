use Rattle.scenario_words.proofs.Prelude.{◌≡◌, ◌≢◌, ◌<◌, length, [], true, false, arith, err_from_is_err_and}
use Rattle.scenario_words.specs.Reading.{wishes_of}
use Rattle.scenario_words.proofs.Streams.{no_words}
use Rattle.scenario_words.proofs.WishWords.{wish_read, wish_fails, no_wish, all_wishes, one_longer, metadata_more}
use Rattle.scenario_words.proofs.cursor.Cursor.pairs.Goals as goal

pub returns-then-count-eq-MOST_WISHES-clause-gives : goal.returns-then-count-eq-MOST_WISHES-clause-gives
returns-then-count-eq-MOST_WISHES-clause-gives c = grind (arith, all_wishes)

pub returns-in_err-wish-clause-gives : goal.returns-in_err-wish-clause-gives
returns-in_err-wish-clause-gives c =
    let more : c.pairs.self.words ≢ [] = c.has_more.ensures.0 c.pairs-test.true in
    let few : length c.pairs.wishes < 31 = omega (arith, c.pairs.invariant.few, c.if-count-eq-MOST_WISHES.false, c.count.ensures.same) in
    let p = err_from_is_err_and c.from_residual.result c.from_residual.ensures.1 in
    rw (p.1, p.2)
    (wish_fails c.pairs.wishes c.pairs.self c.in_err-wish.field-0.0 (wishes_of [] 31 c.args.self.now.read c.args.self.now.words) few more c.in_err-wish.ensures.gives c.pairs.invariant.rest)

pub returns-in_err-wish-clause-memory : goal.returns-in_err-wish-clause-memory
returns-in_err-wish-clause-memory c = λ memory. c.pairs.invariant.some (c.has_more.ensures.0 c.pairs-test.true)

pub returns-in_err-push-clause-memory : goal.returns-in_err-push-clause-memory
returns-in_err-push-clause-memory c = λ memory. c.pairs.invariant.some (c.has_more.ensures.0 c.pairs-test.true)

pub pairs-preserved : goal.pairs-preserved
pairs-preserved c = grind (arith, length, wish_read, one_longer, metadata_more)

pub returns-clause-gives : goal.returns-clause-gives
returns-clause-gives c =
    let none : c.pairs.self.words ≡ [] =
    no_words c.pairs.self.words (λ some. let is : c.has_more.result ≡ true = c.has_more.ensures.1 some in let not : c.has_more.result ≡ false = c.pairs-test.false in cc) in
    no_wish c.pairs.wishes c.pairs.self (wishes_of [] 31 c.args.self.now.read c.args.self.now.words) none c.pairs.invariant.rest

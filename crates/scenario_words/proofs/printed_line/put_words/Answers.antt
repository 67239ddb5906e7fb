use Rattle.scenario_words.proofs.Prelude.{map, joined, arith}
use Rattle.scenario_words.specs.PrintedWords.{spelled}
use Rattle.scenario_words.proofs.Putting.{space_put, word_put, word_prefix, prefix_of_first, on_err}
use Rattle.scenario_words.proofs.printed_line.put_words.Goals as goal

pub returns-in_err-put-clause-err : goal.returns-in_err-put-clause-err
returns-in_err-put-clause-err c = grind (arith, on_err, prefix_of_first, map)

pub returns-in_err-put_word-clause-err : goal.returns-in_err-put_word-clause-err
returns-in_err-put_word-clause-err c =
    on_err c.from_residual-in_err-put_word.result _
    (word_prefix c.args.text.now c.put_octet.new.text c.put_word.new.text _ c.put_octet.new.self c.args.others.now c.loop-word.word-index _
    (grind (arith, space_put)) c.in_err-put_word.ensures.err)

pub loop-word-preserved : goal.loop-word-preserved
loop-word-preserved c =
    word_put c.args.text.now c.put_octet.new.text c.put_word.new.text (joined c.args.first.now (map spelled c.args.others.now)) c.put_octet.new.self c.put_word.new.waiting
    c.args.others.now c.loop-word.word-index _ (grind (arith, space_put, joined, map)) c.in_ok-put_word.ensures.ok

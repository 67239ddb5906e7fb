use Rattle.scenario_words.proofs.Prelude.{◌+◌, add-one, take_rest}
use Rattle.scenario_words.proofs.Splitting.{no_space, first_space}
use Rattle.scenario_words.proofs.first_word.split_word.Goals as goal

pub returns-in-None-clause-words : goal.returns-in-None-clause-words
returns-in-None-clause-words c = no_space c.args.line.now c.in-None.ensures

pub returns-in-Some-clause-words : goal.returns-in-Some-clause-words
returns-in-Some-clause-words c =
    let line = c.args.line.now in
    let end = c.in-Some.end in
    let split = first_space line end c.in-Some.ensures.0.high c.in-Some.ensures.0.before c.in-Some.ensures.1 in
    rw (take_rest line (end + 1), add-one) split

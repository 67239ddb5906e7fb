use Rattle.scenario_words.proofs.Prelude.{decimal, codes, arith}
use Rattle.scenario_words.proofs.Putting.{prefix_of_more, on_err}
use Rattle.scenario_words.proofs.printed_word.put_label.Goals as goal

pub returns-in_err-put_number-clause-err : goal.returns-in_err-put_number-clause-err
returns-in_err-put_number-clause-err c = grind (arith, on_err, prefix_of_more, decimal, codes)

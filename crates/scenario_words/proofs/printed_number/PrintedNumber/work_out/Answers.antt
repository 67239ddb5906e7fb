use Rattle.scenario_words.proofs.Prelude.{rules, length-decimal-le}
use Rattle.scenario_words.proofs.printed_number.PrintedNumber.work_out.Goals as goal

pub write_digits-start-requires : goal.write_digits-start-requires
write_digits-start-requires c = search (rules, length-decimal-le 20)

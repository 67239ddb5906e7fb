use Rattle.scenario_words.proofs.DigitLanes.{both_long, sixteen_written}
use Rattle.scenario_words.proofs.printed_octets.write_sixteen.Goals as goal

pub sixteen_digits-second-requires-clause-long : goal.sixteen_digits-second-requires-clause-long
sixteen_digits-second-requires-clause-long c = both_long c.args.octets.now c.requires.octets

pub returns : goal.returns
returns c =
    sixteen_written c.args.octets.now c.args.digits.now c.sixteen_digits-first.result c.sixteen_digits-second.result c.requires.octets c.requires.digits
    c.sixteen_digits-first.ensures c.sixteen_digits-second.ensures

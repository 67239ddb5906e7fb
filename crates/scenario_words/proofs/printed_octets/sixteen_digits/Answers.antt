use Rattle.scenario_words.proofs.DigitLanes.{digits_of_lanes}
use Rattle.scenario_words.proofs.printed_octets.sixteen_digits.Goals as goal

pub returns : goal.returns
returns c = digits_of_lanes c.args.values c.requires.long c.requires.low

use Rattle.scenario_words.proofs.Prelude.{◌≡◌, ◌*◌, ◌++◌, take, drop, lower_digits}
use Rattle.hex.specs.Hex.{encode_with}
use Rattle.scenario_words.proofs.printed_octets.write_few.Given as goal

abbrev pub invariant-octets : goal.invariant-octets
invariant-octets l = take (2 * l.i) l.digits ++ encode_with lower_digits (drop l.i l.octets) ≡ encode_with lower_digits l.octets

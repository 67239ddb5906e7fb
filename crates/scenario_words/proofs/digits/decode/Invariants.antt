use Rattle.scenario_words.proofs.Prelude.{◌≡◌, ◌*◌, take, drop, prepend}
use Rattle.hex.specs.Hex.{decode_pairs}
use Rattle.scenario_words.proofs.digits.decode.Given as goal

abbrev pub invariant-pairs : goal.invariant-pairs
invariant-pairs l = decode_pairs 0 l.word ≡ prepend (take l.i l.octets) (decode_pairs (2 * l.i) (drop (2 * l.i) l.word))

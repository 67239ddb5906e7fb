use Rattle.scenario_words.proofs.Prelude.{◌≡◌, drop, bytes_eq}
use Rattle.scenario_words.proofs.word.is_word.Given as goal

abbrev pub invariant-octets : goal.invariant-octets
invariant-octets l = bytes_eq (drop l.i l.word) (drop l.i l.name) ≡ bytes_eq l.word l.name

use Rattle.scenario_words.proofs.Prelude.{◌≡◌, take, list_all, is_hex_digit}
use Rattle.scenario_words.proofs.digits.are_digits.Given as goal

abbrev pub invariant-digits : goal.invariant-digits
invariant-digits l = l.are ≡ list_all is_hex_digit (take l.octet-index l.word)

use Rattle.scenario_words.proofs.Prelude.{◌≡◌, ℕ, ◌<◌, ◌^◌, get_or, take, IsInRange, digits_value}
use Rattle.scenario_words.proofs.decimal.decimal.Given as goal

abbrev pub invariant-loop-digit : goal.invariant-loop-digit
invariant-loop-digit l = record {
  value : l.value ≡ digits_value 10 (take l.digit-index l.word);
  small : l.value < 2 ^ 64;
  digits : (k : ℕ) → k < l.digit-index → IsInRange 48 57 (get_or l.word k 0);
}

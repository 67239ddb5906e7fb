use Rattle.scenario_words.proofs.Prelude.{◌≡◌, ◌≤◌, ℕ, ◌<◌, ◌-◌, ◌^◌, get_or, take, IsInRange, digits_value}
use Rattle.scenario_words.proofs.first_word.leading_number.Given as goal

abbrev pub invariant-digits : goal.invariant-digits
invariant-digits l = record {
  value : l.value ≡ digits_value 10 (take l.end l.line);
  within : l.end ≤ l.count;
  small : l.value < 10 ^ l.end;
  digits : (k : ℕ) → k < l.end → IsInRange 48 57 (get_or l.line k 0);
}

abbrev pub decreases-digits : goal.decreases-digits
decreases-digits l = l.count - l.end

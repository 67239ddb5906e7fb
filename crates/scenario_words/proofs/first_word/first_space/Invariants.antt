use Rattle.scenario_words.proofs.Prelude.{◌≡◌, ◌≤◌, ◌<◌, ℕ, true, nat_eq, get_or}
use Rattle.scenario_words.proofs.first_word.first_space.Given as goal

abbrev pub invariant-near : goal.invariant-near
invariant-near l = (k : ℕ) → 0 ≤ k → k < l.i → nat_eq (get_or l.line k 0) 32 ≡ true → ⊥

-- Where the next word spells an octet, and where a word is left.
use Rattle.scenario_lines.proofs.Prelude.{◌≡◌, ◌≢◌, ℕ, true, List, [], ◌∷◌, length, Result, Ok, Err, refl, arith, lt-ltb, nat_lt}
use Rattle.scenario_words.specs.declared.fault.LineFault.{LineFault}
use Rattle.scenario_words.specs.Reading.{Left, SpellsNext}
use Rattle.scenario_lines.specs.Taking.{spells}

pub some_left : {X : Type 0} (items : List X) → items ≢ [] → nat_lt 0 (length items) ≡ true
some_left [] some = absurd (some refl)
some_left (item ∷ items) some = lt-ltb 0 (length (item ∷ items)) (omega arith)

pub next_spells : (read : Result (List ℕ × Left) LineFault) → SpellsNext read → spells read ≡ true
next_spells (Ok octets) some = some_left octets.0 some
next_spells (Err fault) none = absurd none

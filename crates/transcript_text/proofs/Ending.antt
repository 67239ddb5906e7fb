-- A line is its words and its end: what was put of the words is a prefix of the line.
use Rattle.std.proofs.Common.{◌≡◌, ℕ, List, [], ◌∷◌, ◌++◌, refl, ap, ◌∙◌, append_assoc}
use Rattle.scenario_words.specs.Prefixes.{APrefix}

pub all_put : (old now new words : List ℕ) → now ≡ old ++ words → new ≡ now ++ 10 ∷ [] → new ≡ old ++ (words ++ 10 ∷ [])
all_put old now new words put more = more ∙ (ap (λ (l : List ℕ). l ++ 10 ∷ []) put ∙ append_assoc old words (10 ∷ []))

pub words_put : (old new words : List ℕ) → new ≡ old ++ words → APrefix old new (words ++ 10 ∷ [])
words_put old new words put = record { prefix = words; rest = 10 ∷ []; whole = refl; put = put }

pub some_put : (old new words : List ℕ) → APrefix old new words → APrefix old new (words ++ 10 ∷ [])
some_put old new words some = record {
  prefix = some.prefix;
  rest = some.rest ++ 10 ∷ [];
  whole = ap (λ (l : List ℕ). l ++ 10 ∷ []) some.whole ∙ append_assoc some.prefix some.rest (10 ∷ []);
  put = some.put;
}

-- Whether a word is left: each line has one.
use Rattle.scenario_words.proofs.Prelude.{◌≡◌, ◌≢◌, ◌↔◌, ℕ, Bool, true, cond, List, [], ◌∷◌, Option, Err, IsTrue, Bor, is_some, BadLine, onto_first, words_of, words_after, ended, arith}

onto_some : (x : ℕ) (words : List (List ℕ)) → onto_first x words ≡ [] → ⊥
onto_some x words e = grind arith

either_some : (b : Bool) (x : ℕ) (words : List (List ℕ)) → cond b ([] ∷ words) (onto_first x words) ≡ [] → ⊥
either_some b x words e = grind (arith, onto_some)

pub some_word : (line : List ℕ) → words_of line ≡ [] → ⊥
some_word [] e = absurd cc
some_word (x ∷ line) e = either_some _ x (words_of line) e

pub tells_more : (rest : Option (Bor (List ℕ))) (r : Bool) → r ≡ is_some rest → IsTrue r ↔ (words_after rest ≢ [])
tells_more rest r e = grind (arith, some_word)

ended_more : (read : ℕ) (words : List (List ℕ)) → (words ≡ [] → ⊥) → ended read words ≡ Err (BadLine read)
ended_more read words more = grind arith

pub too_many : (rest : Option (Bor (List ℕ))) (read : ℕ) → is_some rest ≡ true → Err (BadLine read) ≡ ended read (words_after rest)
too_many rest read e = grind (arith, ended_more, words_of, some_word)

-- Words that are put behind words, and the end of their line.
use Rattle.std.proofs.Common.{◌≡◌, ℕ, List, [], ◌∷◌, ◌++◌, refl, ap, sym, ◌∙◌, append_assoc}
use Rattle.scenario_words.specs.Joined.{behind}

pub behind_more : (words more : List (List ℕ)) → behind (words ++ more) ≡ behind words ++ behind more
behind_more [] more = refl
behind_more (word ∷ words) more =
    ap (λ (l : List ℕ). 32 ∷ (word ++ l)) (behind_more words more) ∙ ap (λ (l : List ℕ). 32 ∷ l) (sym (append_assoc word (behind words) (behind more)))

-- the first word with some words behind it, then others, then the end of the line
pub line_put : (old one two new first : List ℕ) (words more : List (List ℕ)) → one ≡ old ++ (first ++ behind words) → two ≡ one ++ behind more → new ≡ two ++ 10 ∷ []
    → new ≡ old ++ ((first ++ behind (words ++ more)) ++ 10 ∷ [])
line_put old one two new first words more a b c =
    let behind_first : first ++ behind (words ++ more) ≡ (first ++ behind words) ++ behind more =
    ap (λ (l : List ℕ). first ++ l) (behind_more words more) ∙ sym (append_assoc first (behind words) (behind more)) in
    let all : two ≡ old ++ (first ++ behind (words ++ more)) =
    b ∙ (ap (λ (l : List ℕ). l ++ behind more) a ∙ (append_assoc old (first ++ behind words) (behind more) ∙ ap (λ (l : List ℕ). old ++ l) (sym behind_first))) in
    c ∙ (ap (λ (l : List ℕ). l ++ 10 ∷ []) all ∙ append_assoc old (first ++ behind (words ++ more)) (10 ∷ []))

-- Texts of whole lines.
use Rattle.std.proofs.Common.{◌≡◌, ℕ, Bool, true, false, cond, nat_eq, List, [], ◌∷◌, ◌++◌, refl, ap, sym, ◌∙◌, append_assoc}
use Rattle.scenario_words.specs.Joined.{onto_first}
use Rattle.transcript_text.specs.CountedLines.{lines_of, IsWhole}

pub whole_none : IsWhole []
whole_none more = refl

pub whole_append : (xs ys : List ℕ) → IsWhole xs → IsWhole ys → IsWhole (xs ++ ys)
whole_append xs ys whole others more =
    ap lines_of (append_assoc xs ys more) ∙ whole (ys ++ more) ∙ ap (λ lines. lines_of xs ++ lines) (others more)
    ∙ sym (append_assoc (lines_of xs) (lines_of ys) (lines_of more)) ∙ ap (λ lines. lines ++ lines_of more) (sym (whole ys))

-- an octet joins the first of lines, and there is one
onto_prefix : (octet : ℕ) (line : List ℕ) (lines more : List (List ℕ)) → onto_first octet ((line ∷ lines) ++ more) ≡ onto_first octet (line ∷ lines) ++ more
onto_prefix octet line lines more = refl

-- a text has a line
record SomeLine (lines : List (List ℕ)) : Type 0 where
  pub first : List ℕ
  pub others : List (List ℕ)
  pub are : lines ≡ first ∷ others

onto_some : (octet : ℕ) (lines : List (List ℕ)) → SomeLine (onto_first octet lines)
onto_some octet [] = record { first = octet ∷ []; others = []; are = refl }
onto_some octet (line ∷ lines) = record { first = octet ∷ line; others = lines; are = refl }

chosen_some : (b : Bool) (octet : ℕ) (text : List ℕ) → SomeLine (cond b ((octet ∷ []) ∷ lines_of text) (onto_first octet (lines_of text)))
chosen_some true octet text = record { first = octet ∷ []; others = lines_of text; are = refl }
chosen_some false octet text = onto_some octet (lines_of text)

some_line : (octet : ℕ) (text : List ℕ) → SomeLine (lines_of (octet ∷ text))
some_line octet text = chosen_some (nat_eq octet 10) octet text

ended_some : (text : List ℕ) → SomeLine (lines_of (text ++ 10 ∷ []))
ended_some [] = some_line 10 []
ended_some (octet ∷ text) = some_line octet (text ++ 10 ∷ [])

onto_ended : (octet : ℕ) (lines more : List (List ℕ)) → SomeLine lines → onto_first octet (lines ++ more) ≡ onto_first octet lines ++ more
onto_ended octet lines more some =
    ap (λ ls. onto_first octet (ls ++ more)) some.are ∙ onto_prefix octet some.first some.others more ∙ ap (λ ls. onto_first octet ls ++ more) (sym some.are)

chosen_ended : (b : Bool) (octet : ℕ) (text more : List ℕ) → lines_of (text ++ 10 ∷ more) ≡ lines_of (text ++ 10 ∷ []) ++ lines_of more
    → cond b ((octet ∷ []) ∷ lines_of (text ++ 10 ∷ more)) (onto_first octet (lines_of (text ++ 10 ∷ more)))
    ≡ cond b ((octet ∷ []) ∷ lines_of (text ++ 10 ∷ [])) (onto_first octet (lines_of (text ++ 10 ∷ []))) ++ lines_of more
chosen_ended true octet text more rest = ap (λ lines. (octet ∷ []) ∷ lines) rest
chosen_ended false octet text more rest =
    ap (onto_first octet) rest ∙ onto_ended octet (lines_of (text ++ 10 ∷ [])) (lines_of more) (ended_some text)

ended : (text more : List ℕ) → lines_of (text ++ 10 ∷ more) ≡ lines_of (text ++ 10 ∷ []) ++ lines_of more
ended [] more = refl
ended (octet ∷ text) more = chosen_ended (nat_eq octet 10) octet text more (ended text more)

-- a text that ends with the end of a line
pub whole_ended : (text : List ℕ) → IsWhole (text ++ 10 ∷ [])
whole_ended text more = ap lines_of (append_assoc text (10 ∷ []) more) ∙ ended text more

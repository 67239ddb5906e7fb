-- The line that is written for a step is a line of the table, and each line of the table has values that have words.
use Rattle.scenario_lines.proofs.Prelude.{◌≡◌, ℕ, List, [], ◌∷◌, Some, Values, AllHaveWords, words_fit, Step, Build, Row, Says, Fits, EachRow, made, of_each_row}
use Rattle.scenario_words.specs.Places.{Place}
use Rattle.scenario_text.specs.Table.{row_of}

-- ---- what is said

-- values that have words make the step
pub record Valued (places : List Place) (build : Build places) (made_of : Step) : Type 0 where
  pub values : Values places
  pub have : AllHaveWords places values
  pub make : made places build values ≡ made_of

pub said : (places : List Place) (build : Build places) (made_of : Step) (words : List (List ℕ)) → Says places build made_of words → Valued places build made_of
said [] build made_of words h = record { values = tt; have = tt; make = h.0 }
said (place ∷ places) build made_of words h =
    let others = said places (build h.0) made_of h.1 h.3 in
    record { values = (h.0, others.values); have = (words_fit place h.0 words h.1 h.2, others.have); make = others.make }

-- the values of a row that have words make steps that fit
abbrev pub RowFits : Row → Type 0
RowFits row = (values : Values row.places) → AllHaveWords row.places values → Fits (made row.places row.build values)

all_fit : EachRow RowFits 2
all_fit = record {
  of_events = (λ values h. h, (λ values h. h, (λ values h. h, (λ values h. h, (λ values h. h, (λ values h. h, tt))))));
  first = (λ values h. h, (λ values h. h, (λ values h. h, (λ values h. h, (λ values h. h, (λ values h. h, (λ values h. h, (λ values h. h, tt))))))));
  of_sources = (λ values h. h, (λ values h. h, (λ values h. h, (λ values h. h, (λ values h. h, (λ values h. h, (λ values h. h, (λ values h. h, tt))))))));
  of_sinks = (λ values h. h, (λ values h. h, (λ values h. h, (λ values h. h, (λ values h. h, (λ values h. h, (λ values h. h, (λ values h. h, tt))))))));
  of_links = (λ values h. h, (λ values h. h, (λ values h. h, (λ values h. h, (λ values h. h, (λ values h. h, (λ values h. h, (λ values h. h, tt))))))));
  later = (λ values h. h, (λ values h. h, (λ values h. h, (λ values h. h, (λ values h. h, tt)))));
  of_later_links = (λ values h. h, (λ values h. h, (λ values h. h, (λ values h. h, (λ values h. h, tt)))));
}

pub row_fits : (first : List ℕ) (row : Row) → row_of 2 first ≡ Some row → RowFits row
row_fits first row e = of_each_row RowFits 2 first row all_fit e

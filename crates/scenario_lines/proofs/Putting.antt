-- Words behind words, and the streams of a set, the pairs and the values one after the other.
use Rattle.scenario_lines.proofs.Prelude.{◌≡◌, ◌<◌, ◌+◌, ◌-◌, ℕ, suc, Bool, true, false, cond, nat_eq, List, [], ◌∷◌, ◌++◌, map, drop, Some, decimal, refl, ap, sym, ◌∙◌, append_assoc, arith, all_words_given, next_item, placed_line, slice_get, bit_at, append-nil, behind, add-one}
use Rattle.bass_operations.specs.declared.wishes.Wish.{Wish}
use Rattle.scenario_words.specs.ValueWords.{streams_from, wish_words}
use Rattle.scenario_words.specs.declared.value.Value.{Value}
use Rattle.scenario_words.specs.Given.{at_place, given_words, placed, words_at}

pub behind_more : (words more : List (List ℕ)) → behind (words ++ more) ≡ behind words ++ behind more
behind_more [] more = refl
behind_more (word ∷ words) more =
    ap (λ (l : List ℕ). 32 ∷ (word ++ l)) (behind_more words more) ∙ ap (λ (l : List ℕ). 32 ∷ l) (sym (append_assoc word (behind words) (behind more)))

abbrev pub streams_words : ℕ → ℕ → ℕ → List ℕ
streams_words set index more = behind (map decimal (streams_from set index more))

chosen_next : (b : Bool) (index : ℕ) (others : List ℕ)
    → behind (map decimal (cond b (index ∷ others) others)) ≡ behind (map decimal (cond b (index ∷ []) [])) ++ behind (map decimal others)
chosen_next true index others = ap (λ (l : List ℕ). 32 ∷ l) (ap (λ (l : List ℕ). l ++ behind (map decimal others)) (sym (append-nil (decimal index))))
chosen_next false index others = refl

-- the next index first, then those after it
streams_next : (set index more : ℕ) → streams_words set index (suc more) ≡ streams_words set index 1 ++ streams_words set (index + 1) more
streams_next set index more = chosen_next (nat_eq (bit_at set (index - 1)) 1) index (streams_from set (index + 1) more)

-- ---- one piece after the other

-- the pieces from a place on are still to be put
pub record Left (rest : ℕ → List ℕ) (all initial now : List ℕ) (i : ℕ) : Type 0 where
  pub so_far : now ++ rest i ≡ initial ++ all

pub piece_put : (rest : ℕ → List ℕ) (all initial now next piece : List ℕ) (i : ℕ) → rest i ≡ piece ++ rest (i + 1) → Left rest all initial now i
    → next ≡ now ++ piece → Left rest all initial next (i + 1)
piece_put rest all initial now next piece i split left put = record {
  so_far = ap (λ (l : List ℕ). l ++ rest (i + 1)) put ∙ append_assoc now piece (rest (i + 1)) ∙ ap (λ (l : List ℕ). now ++ l) (sym split) ∙ left.so_far;
}

pub pieces_put : (rest : ℕ → List ℕ) (all initial now : List ℕ) (i : ℕ) → rest i ≡ [] → Left rest all initial now i → now ≡ initial ++ all
pieces_put rest all initial now i none left = sym (append-nil now) ∙ ap (λ (l : List ℕ). now ++ l) (sym none) ∙ left.so_far

-- the streams from an index on
abbrev pub streams_left : ℕ → ℕ → List ℕ
streams_left set index = streams_words set index (32 - index)

pub stream_first : (set index : ℕ) → index < 32 → streams_left set index ≡ streams_words set index 1 ++ streams_left set (index + 1)
stream_first set index inside =
    let here : 32 - index ≡ suc (32 - (index + 1)) = omega arith in
    ap (streams_words set index) here ∙ streams_next set index (32 - (index + 1))

-- ---- pairs, and values

-- what is written of items is written of one after the other
abbrev pub InTurn : {A : Type 0} → (List A → List ℕ) → Type 0
InTurn {A} written = (item : A) (others : List A) → written (item ∷ others) ≡ written (item ∷ []) ++ written others

pub item_first : {A : Type 0} (written : List A → List ℕ) → InTurn written → (all : List A) (i : ℕ) (item : A) → slice_get all i ≡ Some item
    → written (drop i all) ≡ written (item ∷ []) ++ written (drop (i + 1) all)
item_first written turn all i item at = rw add-one (ap written (next_item all i item at) ∙ turn item (drop (suc i) all))

abbrev pub written_wishes : List Wish → List ℕ
written_wishes wishes = behind (wish_words wishes)

abbrev pub wishes_left : List Wish → ℕ → List ℕ
wishes_left wishes i = written_wishes (drop i wishes)

pub wishes_in_turn : InTurn written_wishes
wishes_in_turn wish others = behind_more (wish_words (wish ∷ [])) (wish_words others)

abbrev pub written_values : List Value → List ℕ
written_values values = behind (given_words values)

pub value_alone : (value : Value) → written_values (value ∷ []) ≡ behind (words_at (at_place value))
value_alone value = ap behind (append-nil (words_at (at_place value)))

abbrev pub values_left : List Value → ℕ → List ℕ
values_left values i = written_values (drop i values)

pub values_in_turn : InTurn written_values
values_in_turn value others =
    behind_more (words_at (at_place value)) (given_words others) ∙ ap (λ (l : List ℕ). l ++ written_values others) (sym (value_alone value))

-- values that are put behind a first word
pub line_put : (first line : List ℕ) (values : List Value) → line ≡ first ++ behind (given_words values) → line ≡ placed_line (placed first values)
line_put first line values e = e ∙ ap (λ (words : List (List ℕ)). first ++ behind words) (all_words_given values)

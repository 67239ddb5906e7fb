-- The values of a row that have words make a step, and their words say it.
use Rattle.scenario_text.proofs.Prelude.{◌≡◌, true, ◌||◌, not, List, [], ◌∷◌, refl, and_parts, Place, one, perhaps, rising, wishes, Step, Build, Says, Values, AllHaveWords, all_words, EndsAt, words_spelled, words_unspaced, NoSpaces, more_unspaced}
use Rattle.scenario_text.proofs.Rows.{all_small, none_more, takes_all, takes_all_last}

-- the step that values at places make
abbrev pub made : (places : List Place) → Build places → Values places → Step
made [] build values = build
made (place ∷ places) build values = made places (build values.0) values.1

ends_at : (place : Place) (places : List Place) (values : Values places) → (none_more places || not (takes_all place)) ≡ true → EndsAt place (all_words places values)
ends_at (one place) places values last = tt
ends_at (perhaps least greatest) [] values last = refl
ends_at (perhaps least greatest) (place ∷ places) values last = absurd cc
ends_at rising [] values last = refl
ends_at rising (place ∷ places) values last = absurd cc
ends_at (wishes most) [] values last = refl
ends_at (wishes most) (place ∷ places) values last = absurd cc

pub says : (places : List Place) (build : Build places) (values : Values places) → takes_all_last places ≡ true → AllHaveWords places values
    → Says places build (made places build values) (all_words places values)
says [] build values last h = (refl, refl)
says (place ∷ places) build values last h =
    let parts = and_parts (none_more places || not (takes_all place)) (takes_all_last places) last in (
      values.0,
      all_words places values.1,
      words_spelled place values.0 (all_words places values.1) (ends_at place places values.1 parts.0) h.0,
      says places (build values.0) values.1 parts.1 h.1,
    )

pub all_unspaced : (places : List Place) (values : Values places) → all_small places ≡ true → AllHaveWords places values → NoSpaces (all_words places values)
all_unspaced [] values small h = tt
all_unspaced (place ∷ places) values small h =
    let parts = and_parts _ (all_small places) small in
    more_unspaced _ _ (words_unspaced place values.0 parts.0 h.0) (all_unspaced places values.1 parts.1 h.1)

-- A step that both lists of steps have keeps what they have alike of a sink and a source, where it means this source if it is a
-- source line.
use Rattle.scenario_laws.proofs.Known.Sources.{ℕ, ◌≡◌, ◌≢◌, true, false, List, ◌∷◌, is_some, arith, option_or, ne_eqb, Step, box_of, handed_by, handed_up, is_of, sink_calls, source_of, Airs, chosen_given, chosen_of, is_source_line, calls_made, source_at, made_of, version_given, units_by, closing, Sourced, cond_same, history_grows, sourced_same, said_grows, HistoriesAlike, Same, chosen_alike, horizon_alike, source_alike, kept_took, both_alike, closing_alike, units_append}

-- the step means this source, where it is a source line
abbrev pub Means : ℕ → List Step → Step → Type 0
Means s made step = is_source_line step ≡ true → chosen_of made ≡ s

pub sourced : (airs : Airs) (s n : ℕ) (step : Step) (made others : List Step) → Means s made step → Same airs s n made others
    → Sourced step (source_at made) (source_at others)
sourced airs s n this made others means same is = source_alike airs s n made others (means is) same

-- ---- whether it lives, and with which limits

made_grows : (airs : Airs) (s n : ℕ) (step : Step) (made others : List Step) → Same airs s n made others
    → made_of n (step ∷ made) ≡ made_of n (step ∷ others)
made_grows airs s n this made others same = grind (arith, cond_same, horizon_alike)

-- ---- its source

source_grows : (airs : Airs) (s n : ℕ) (step : Step) (made others : List Step) → Means s made step → Same airs s n made others
    → source_of n (step ∷ made) ≡ source_of n (step ∷ others)
source_grows airs s n this made others means same = grind (arith, cond_same, chosen_alike, sourced_same, source_alike)

apart_grows : (airs : Airs) (s n : ℕ) (step : Step) (made others : List Step) → Means s made step → Same airs s n made others
    → (t : ℕ) → t ≢ s → is_of t (source_of n (step ∷ made)) ≡ false
apart_grows airs s n this made others means same t other = grind (arith, ne_eqb)

-- ---- what its receivers took

calls_grow : (airs : Airs) (s n : ℕ) (step : Step) (made others : List Step) → Means s made step → Same airs s n made others
    → HistoriesAlike (made_of n (step ∷ made)) (calls_made n (step ∷ made)) (calls_made n (step ∷ others))
    → sink_calls airs n (step ∷ made) ≡ sink_calls airs n (step ∷ others)
calls_grow airs s n this made others means same later = grind arith

-- ---- its units

boxed_grows : (airs : Airs) (s n : ℕ) (step : Step) (made others : List Step) → Same airs s n made others
    → is_some (box_of n (step ∷ made)) ≡ is_some (box_of n (step ∷ others))
boxed_grows airs s n this made others same = grind arith

pub chosen_closing : (airs : Airs) (s n : ℕ) (made others : List Step) → Same airs s n made others
    → units_by n (closing airs (chosen_of made) made) ≡ units_by n (closing airs (chosen_of others) others)
chosen_closing airs s n made others same = cc (chosen_alike airs s n made others same, closing_alike airs s n (chosen_of others) made others same)

handed_same : (airs : Airs) (s n : ℕ) (step : Step) (made others : List Step) → Same airs s n made others
    → units_by n (handed_by airs made step) ≡ units_by n (handed_by airs others step)
handed_same airs s n this made others same = grind (arith, chosen_closing, both_alike)

units_grow : (airs : Airs) (s n : ℕ) (step : Step) (made others : List Step) → Same airs s n made others
    → units_by n (handed_up airs (step ∷ made)) ≡ units_by n (handed_up airs (step ∷ others))
units_grow airs s n this made others same = grind (arith, units_append, handed_up, handed_by, handed_same)

-- ---- all of it

pub kept : (airs : Airs) (s n : ℕ) (step : Step) (made others : List Step) → Means s made step → Same airs s n made others
    → Same airs s n (step ∷ made) (step ∷ others)
kept airs s n this made others means same =
    search (
      made_of,
      calls_made,
      history_grows,
      sourced,
      option_or,
      chosen_given,
      said_grows,
      chosen_alike,
      version_given,
      made_grows,
      source_grows,
      apart_grows,
      calls_grow,
      boxed_grows,
      units_grow,
      kept_took,
      handed_same,
    )

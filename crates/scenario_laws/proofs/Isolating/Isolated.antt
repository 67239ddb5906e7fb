-- The isolation law: by one induction over the steps, each of which is kept in both lists or left out of one.
use Rattle.scenario_laws.proofs.Known.Sources.Steps.{ℕ, ◌≡◌, ◌≢◌, ◌⊎◌, ◌==◌, ◌&&◌, ◌||◌, cond, not, Bool, true, false, List, [], ◌∷◌, ◌++◌, arith, refl, inl, inr, and_parts, eqb-true, false≢true, not-true, state_at, language, view_of, waits_of, Step, Account, steps_of, Airs, chosen_of, is_common, is_source_line, calls_made, IsIsolated, IsolationLaw, NoOtherPuts, kept_lines, lines_by, lines_of, puts, chooses, is_kept, is_other, is_sink, only, sink_in, notices_same, waiting_same, Same, eqb-false}
use Rattle.scenario_laws.proofs.Isolating.Left.{elsewhere, another_sink, left_out}
use Rattle.scenario_laws.proofs.Isolating.Kept.{Means, kept}
use Rattle.scenario_laws.proofs.Isolating.Printed.{replied_same, lines_same, append_same}

-- ---- why a step is left out

by_tests : (common line chosen other its : Bool) → cond common true (cond line (chosen && not other) its) ≡ false
    → (its ≡ false → line ≡ false → common ≡ false → other ≡ true) → (other ≡ true) ⊎ ((line ≡ true) × (chosen ≡ false))
by_tests common line chosen other its is rest = grind (arith, false≢true)

-- a step that is neither of the whole scenario nor a source line names a sink
names_one : (n : ℕ) (step : Step) → is_sink n (sink_in step) ≡ false → is_source_line step ≡ false
    → (is_common step || chooses step) ≡ false → is_other n (sink_in step) ≡ true
names_one n this not line common = grind (arith, false≢true)

fate : (s n : ℕ) (step : Step) (made : List Step) → is_kept s n made step ≡ false
    → (is_other n (sink_in step) ≡ true) ⊎ ((is_source_line step ≡ true) × (chosen_of made ≢ s))
fate s n step made is =
    elim (by_tests (is_common step || chooses step) (is_source_line step) (chosen_of made == s) (is_other n (sink_in step))
    (is_sink n (sink_in step)) is (names_one n step)) [
      | inl other ↦ inl other
      | inr elsewhere ↦ inr (elsewhere.0, eqb-false (chosen_of made) s elsewhere.1)
    ]

-- ---- what a step is that is kept

means : (s n : ℕ) (step : Step) (made : List Step) → is_kept s n made step ≡ true → Means s made step
means s n this made is line = grind (arith, eqb-true, false≢true, and_parts)

names : (s n : ℕ) (step : Step) (made : List Step) → is_kept s n made step ≡ true → is_other n (sink_in step) ≡ false
names s n this made is = grind (arith, not, not-true, and_parts, false≢true)

-- ---- the induction

same_if : (airs : Airs) (s n : ℕ) (step : Step) (made : List Step) (hit : Bool) → is_kept s n made step ≡ hit
    → (chosen_of made ≢ s → puts n made step ≡ false)
    → Same airs s n made (only s n made) → Same airs s n (step ∷ made) (cond hit (step ∷ only s n made) (only s n made))
same_if airs s n step made true is puts_not same = kept airs s n step made (only s n made) (means s n step made is) same
same_if airs s n step made false is puts_not same = elim (fate s n step made is) [
  | inl other ↦ left_out airs s n step made (only s n made) (another_sink airs s n step made other) same
  | inr line ↦
      left_out airs s n step made (only s n made)
      (elsewhere airs s n step made line.0 line.1 (puts_not line.1) (same.apart (chosen_of made) line.1)) same
]

same_of : (airs : Airs) (s n : ℕ) (made : List Step) → NoOtherPuts s n made → Same airs s n made (only s n made)
same_of airs s n [] puts_not = search arith
same_of airs s n (this ∷ made) puts_not = search (same_if, same_of airs s n made puts_not.0)

-- ---- what the kept steps print

lines_if : (airs : Airs) (s n : ℕ) (step : Step) (made : List Step) (hit : Bool) → is_kept s n made step ≡ hit
    → Same airs s n made (only s n made) → kept_lines airs s n made ≡ lines_of airs n (only s n made)
    → cond hit (kept_lines airs s n made ++ lines_by airs n made step) (kept_lines airs s n made) ≡ lines_of airs n (cond hit (step ∷ only s n made) (only s n made))
lines_if airs s n this made hit is same before = grind (arith, append_same, lines_same, names, means)

lines_kept : (airs : Airs) (s n : ℕ) (made : List Step) → NoOtherPuts s n made → kept_lines airs s n made ≡ lines_of airs n (only s n made)
lines_kept airs s n [] puts_not = refl
lines_kept airs s n (step ∷ made) puts_not =
    lines_if airs s n step made (is_kept s n made step) refl (same_of airs s n made puts_not.0) (lines_kept airs s n made puts_not.0)

-- ---- the law

pub isolated : (airs : Airs) (s n : ℕ) (made : List Step) → NoOtherPuts s n made → IsIsolated airs s n made
isolated airs s n made puts_not =
    let same : Same airs s n made (only s n made) = same_of airs s n made puts_not in record {
      made = same.sink;
      source = same.source;
      calls = same.calls;
      units = same.units;
      sums = same.took;
      lives = grind (arith, calls_made, only, state_at, waiting_same, replied_same, notices_same, waits_of, language, view_of);
      lines = lines_kept airs s n made puts_not;
    }

pub isolation_holds : (starts : List Account) → IsolationLaw starts
isolation_holds starts airs meet lines accepted no_relay s n puts_not = isolated airs s n (steps_of airs lines) puts_not

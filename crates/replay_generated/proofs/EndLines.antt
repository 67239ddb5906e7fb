-- The generated lines have `end`.
use Rattle.replay_generated.proofs.Prelude.{◌≡◌, ℕ, true, List, [], ◌∷◌, ◌++◌, map, codes, refl, ap, ◌∙◌, Some, Ok, plain, generated_lines, has_end, lines_made}
use Rattle.std.proofs.lemmas.List.{reverse-append, map-append}
use Rattle.scenario_text.specs.Steps.{read_of, step_of}
use Rattle.scenario_text.specs.Table.{first_row_of, row_of}
use Rattle.scenario_text.specs.declared.step.Step.TheVariants.{End}
use Rattle.replay_generated.proofs.GeneratedText.{generated_end}

read_end : (version : ℕ) → read_of version (codes "end") ≡ Ok (Some End)
unfolding read_of step_of row_of first_row_of
read_end version = refl

ended : (prefix : List (List ℕ)) → has_end (map plain (prefix ++ codes "end" ∷ [])) ≡ true
ended prefix = simp (map-append, reverse-append, read_end)

pub made_end : (seed events : ℕ) → lines_made seed events ≡ map plain (generated_lines seed events) → has_end (lines_made seed events) ≡ true
made_end seed events are =
    let last = generated_end seed events in
    ap has_end are ∙ ap (λ ls. has_end (map plain ls)) last.1 ∙ ended last.0

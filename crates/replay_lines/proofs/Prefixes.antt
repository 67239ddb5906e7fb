-- What the whole lines of a prefix of a text bring is a prefix of what all lines bring.
use Rattle.replay_lines.proofs.Prelude.{handed_line, handed_on, ◌≡◌, ℕ, ◌+◌, Bool, true, false, cond, List, [], ◌∷◌, ◌++◌, length, refl, sym, ap, ◌∙◌, append_assoc, Option, None, Some, append-nil, MayFollow, TextLine, lines_of, Account, Rules, out, out_unless, accepted_of, accepted_unless, brought_by, Step, SinkUnit, handed_up, rules_of, steps_of, Airs, end_after, has_end, last_line_after, transcript_of, units_of, Refusal, arith}
use Rattle.bcast_io.specs.TextLines.{lines_from}

-- ---- lines

prefix_of_either : (over : Bool) (first whole prefix : List TextLine) → (later : List TextLine) × (whole ≡ prefix ++ later)
    → (later : List TextLine) × (cond over first whole ≡ cond over first prefix ++ later)
prefix_of_either true first whole prefix more = ([], sym (append-nil first))
prefix_of_either false first whole prefix more = more

prefix_of_line : (ends : Bool) (line : TextLine) (whole prefix going gone : List TextLine)
    → (later : List TextLine) × (whole ≡ prefix ++ later) → (later : List TextLine) × (going ≡ gone ++ later)
    → (later : List TextLine) × (cond ends (line ∷ whole) going ≡ cond ends (line ∷ prefix) gone ++ later)
prefix_of_line true line whole prefix going gone more others = (more.0, ap (λ ls. line ∷ ls) more.1)
prefix_of_line false line whole prefix going gone more others = others

-- the lines of a text begin with the whole lines of a prefix of it
lines_more : (taken : ℕ) (part prefix rest : List ℕ)
    → (later : List TextLine) × (lines_from true taken part (prefix ++ rest) ≡ lines_from false taken part prefix ++ later)
unfolding lines_from
lines_more taken part [] rest = (lines_from true taken part rest, refl)
lines_more taken part (x ∷ prefix) rest =
    search (prefix_of_either, prefix_of_line, lines_more (taken + 1) [] prefix rest, lines_more (taken + 1) (part ++ x ∷ []) prefix rest)

-- ---- octets and units

pub out_more : (rules : Rules TextLine Refusal) (history lines later : List TextLine)
    → (rest : List ℕ) × (out rules history (lines ++ later) ≡ out rules history lines ++ rest)
out_more rules history [] later = (out rules history later, refl)
out_more rules history (line ∷ lines) later = by_refusal (rules.refusal history line) (out_more rules (line ∷ history) lines later)
  where
    by_refusal : (why : Option Refusal)
        → (rest : List ℕ) × (out rules (line ∷ history) (lines ++ later) ≡ out rules (line ∷ history) lines ++ rest)
        → (rest : List ℕ) × (out_unless rules history why (rules.output history line ++ out rules (line ∷ history) (lines ++ later))
        ≡ out_unless rules history why (rules.output history line ++ out rules (line ∷ history) lines) ++ rest)
    by_refusal (Some reason) more = ([], sym (append-nil (rules.refused_line (length history + 1) reason)))
    by_refusal None more = (more.0, grind (arith, append_assoc))

-- the steps of the lines that are accepted of these after a history
abbrev steps_after : Airs → List Account → List TextLine → List TextLine → List Step
steps_after airs starts history lines = steps_of airs (accepted_of (rules_of airs starts) history lines)

-- the same where a line comes first that is refused so
abbrev steps_unless : Airs → List Account → List TextLine → TextLine → Option Refusal → List TextLine → List Step
steps_unless airs starts history line why lines =
    steps_of airs (accepted_unless history why (accepted_of (rules_of airs starts) (line ∷ history) lines))

module _ (airs : Airs) (starts : List Account) where
  -- what further lines hand up
  pub units_rest : (history lines : List TextLine)
      → (rest : List SinkUnit) × (handed_up airs (steps_after airs starts history lines) ≡ handed_up airs (steps_of airs history) ++ rest)
  units_rest history [] = ([], sym (append-nil (handed_up airs (steps_of airs history))))
  units_rest history (line ∷ lines) = by_refusal ((rules_of airs starts).refusal history line) (units_rest (line ∷ history) lines)
    where
      by_refusal : (why : Option Refusal) → (rest : List SinkUnit)
          × (handed_up airs (steps_after airs starts (line ∷ history) lines) ≡ handed_up airs (steps_of airs (line ∷ history)) ++ rest)
          → (rest : List SinkUnit) × (handed_up airs (steps_unless airs starts history line why lines)
          ≡ handed_up airs (steps_of airs history) ++ rest)
      by_refusal (Some reason) more = ([], sym (append-nil (handed_up airs (steps_of airs history))))
      by_refusal None more = (
        handed_on airs history line ++ more.0,
        more.1 ∙ ap (λ us. us ++ more.0) (handed_line airs history line) ∙ simp append_assoc,
      )

  pub units_more : (history lines later : List TextLine) → (rest : List SinkUnit)
      × (handed_up airs (steps_after airs starts history (lines ++ later)) ≡ handed_up airs (steps_after airs starts history lines) ++ rest)
  units_more history [] later = units_rest history later
  units_more history (line ∷ lines) later =
      by_refusal ((rules_of airs starts).refusal history line) (units_more (line ∷ history) lines later)
    where
      by_refusal : (why : Option Refusal) → (rest : List SinkUnit)
          × (handed_up airs (steps_after airs starts (line ∷ history) (lines ++ later))
          ≡ handed_up airs (steps_after airs starts (line ∷ history) lines) ++ rest) → (rest : List SinkUnit)
          × (handed_up airs (steps_unless airs starts history line why (lines ++ later))
          ≡ handed_up airs (steps_unless airs starts history line why lines) ++ rest)
      by_refusal (Some reason) more = ([], sym (append-nil (handed_up airs (steps_of airs history))))
      by_refusal None more = more

  -- ---- a text of which this much was read

  pub transcript_more : (over : Bool) (text prefix rest : List ℕ) → text ≡ prefix ++ rest → MayFollow over true rest
      → (more : List ℕ) × (transcript_of airs starts (lines_of true text) ≡ brought_by airs over starts prefix ++ more)
  transcript_more true text prefix rest whole follows = ([], grind (arith, append-nil))
  transcript_more false text prefix rest whole follows =
      let all = lines_of true text in
      let later = lines_more 0 [] prefix rest in
      let more = out_more (rules_of airs starts) [] (lines_of false prefix) later.0 in
      (more.0 ++ last_line_after (end_after airs starts all) (has_end all) (length all + 1), grind (arith, append_assoc))

  pub units_of_more : (over : Bool) (text prefix rest : List ℕ) → text ≡ prefix ++ rest → MayFollow over true rest
      → (more : List SinkUnit) × (units_of airs starts (lines_of true text) ≡ units_of airs starts (lines_of over prefix) ++ more)
  units_of_more true text prefix rest whole follows = ([], grind (arith, append-nil))
  units_of_more false text prefix rest whole follows =
      let later = lines_more 0 [] prefix rest in
      let more = units_more [] (lines_of false prefix) later.0 in (more.0, rw (whole, later.1) more.1)

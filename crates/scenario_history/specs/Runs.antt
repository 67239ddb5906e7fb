-- A run over lines, whatever they say: each is tested after those before it and brings its octets, up to the first
-- refusal. The lines of a run so far are its history, the newest first. Runs are this project's own.
use Rattle.std.specs.Prelude.{ℕ, ◌+◌, ◌≡◌, List, [], ◌∷◌, ◌++◌, length, Option, None, Some}

-- what fixes a run: why a line is refused after a history, what else it brings, and the line of a refusal by number and reason
pub record Rules (L R : Type 0) : Type 0 where
  pub refusal : List L → L → Option R
  pub output : List L → L → List ℕ
  pub refused_line : ℕ → R → List ℕ

-- a run goes through all its lines, or is refused at a line, from 1
pub data End (R : Type 0) : Type 0 where
  through : End R
  refused : (line : ℕ) (reason : R) → End R

abbrev pub number_after : {L : Type 0} → List L → ℕ
number_after history = length history + 1

abbrev pub out_unless : {L R : Type 0} → Rules L R → List L → Option R → List ℕ → List ℕ
out_unless rules history (Some reason) octets = rules.refused_line (number_after history) reason
out_unless rules history None octets = octets

-- Out: the octets of these lines after a history, in order
abbrev pub out : {L R : Type 0} → Rules L R → List L → List L → List ℕ
out rules history [] = []
out rules history (line ∷ lines) =
    out_unless rules history (rules.refusal history line) (rules.output history line ++ out rules (line ∷ history) lines)

abbrev pub end_unless : {L R : Type 0} → List L → Option R → End R → End R
end_unless history (Some reason) end = refused (number_after history) reason
end_unless history None end = end

abbrev pub end_of : {L R : Type 0} → Rules L R → List L → List L → End R
end_of rules history [] = through
end_of rules history (line ∷ lines) = end_unless history (rules.refusal history line) (end_of rules (line ∷ history) lines)

-- the octets that a history brought
abbrev pub brought : {L R : Type 0} → Rules L R → List L → List ℕ
brought rules [] = []
brought rules (line ∷ earlier) = brought rules earlier ++ rules.output earlier line

-- no line of the history was refused
abbrev pub Accepted : {L R : Type 0} → Rules L R → List L → Type 0
Accepted rules [] = Unit {0}
Accepted rules (line ∷ earlier) = Accepted rules earlier × (rules.refusal earlier line ≡ None)

abbrev pub accepted_unless : {L R : Type 0} → List L → Option R → List L → List L
accepted_unless history (Some reason) all = history
accepted_unless history None all = all

-- the history and those of these lines that come before the first refusal, the newest first
abbrev pub accepted_of : {L R : Type 0} → Rules L R → List L → List L → List L
accepted_of rules history [] = history
accepted_of rules history (line ∷ lines) = accepted_unless history (rules.refusal history line) (accepted_of rules (line ∷ history) lines)

-- A line that version 1 of the scenario language reads, version 2 reads as the same step: each row of version 1 stands in
-- version 2, where a sink has up to eight slots.
use Rattle.scenario_laws.proofs.Known.Sources.{ℕ, ◌≡◌, ◌⊎◌, ◌≤◌, cond, Bool, List, [], ◌∷◌, Option, None, Some, Result, Err, refl, sym, subst, inl, arith, bytes_eq, nat_eq, le-leb, leb-true, TextLine, ◌>>=◌, LineFault, at_known, at_row, Row, event_rows, first_rows, link_row_of_2, link_rows, row_in, rows_of_2, sink_row, sink_rows, source_rows, tuned_row, drop_row, stop_row, end_row, BadLine, unsaid, said_in, Left, decimal_in, read_of, step_of, first_row_of, link_row_of, row_of, row_of_2, sink_row_of, source_row_of, Said, IsLater}
use Rattle.scenario_words.specs.declared.fault.LineFault.TheVariants.{BadLine as Misfit}
use Rattle.scenario_words.specs.Reading.{next_of}

-- ---- what is read twice

-- a word doesn't fit
abbrev pub IsMisfit : {A : Type 0} → Result A LineFault → Type 0
IsMisfit (Err (Misfit word)) = Unit {0}
IsMisfit _ = ⊥

-- one reading is the other, or of that a word doesn't fit
abbrev pub ReadsOn : {A : Type 0} → Result A LineFault → Result A LineFault → Type 0
ReadsOn here there = (there ≡ here) ⊎ IsMisfit here

first_on : {A B : Type 0} (here there : Result A LineFault) (f : A → Result B LineFault) → ReadsOn here there
    → ReadsOn (here >>= f) (there >>= f)
first_on here there f h3 = grind arith

then_on : {A B : Type 0} (read : Result A LineFault) (f g : A → Result B LineFault) → ((a : A) → ReadsOn (f a) (g a))
    → ReadsOn (read >>= f) (read >>= g)
then_on read f g on = grind arith

-- ---- a number

number_on : (near wider : ℕ) (read : ℕ) (words : List (List ℕ)) → near ≤ wider
    → ReadsOn (next_of (decimal_in 1 near) read words) (next_of (decimal_in 1 wider) read words)
unfolding decimal_in
number_on near wider read words within = grind (arith, leb-true, le-leb, cond)

-- ---- a row

least_slots : (second : Bool) → cond second 8 4 ≤ 8
least_slots second = grind arith

slots_on : (version : ℕ) (left : Left) → ReadsOn (at_row (sink_row version) left) (at_row (sink_row 2) left)
slots_on version left = search (then_on, first_on, number_on, least_slots)

-- rows by their first words, where what each reads is read on
abbrev RowsOn : List Row → List Row → Type 0
RowsOn [] [] = Unit {0}
RowsOn (row ∷ rows) (other ∷ others) = (other.first ≡ row.first) × ((left : Left)
    → ReadsOn (at_row row left) (at_row other left)) × RowsOn rows others
RowsOn _ _ = ⊥

same_rows : (rows : List Row) → RowsOn rows rows
same_rows [] = tt
same_rows (row ∷ rows) = (refl, λ left. inl refl, same_rows rows)

-- a row or none, where what is read by it is read on
abbrev KnownOn : Option Row → Option Row → Type 0
KnownOn here there = (left : Left) → ReadsOn (at_known here left) (at_known there left)

in_rows_on : (first : List ℕ) (rows others : List Row) (here there : Option Row) → RowsOn rows others → KnownOn here there
    → KnownOn (row_in first rows here) (row_in first others there)
in_rows_on first [] [] here there on rest = rest
in_rows_on first (row ∷ rows) (other ∷ others) here there on rest =
    subst (λ word. KnownOn (cond (bytes_eq first row.first) (Some row) (row_in first rows here))
    (cond (bytes_eq first word) (Some other) (row_in first others there))) (sym on.0)
    (grind (arith, (in_rows_on first rows others here there on.2 rest)))
in_rows_on first rows others here there on rest = search

first_rows_on : (version : ℕ) → RowsOn (first_rows version) (first_rows 2)
first_rows_on version = grind (arith, slots_on, same_rows, tuned_row, drop_row, stop_row, end_row)

-- version 1 knows none of the rows of version 2 alone
later_on : (second : Bool) (first : List ℕ)
    → KnownOn (cond second (row_in first rows_of_2 (link_row_of_2 first)) None) (row_in first rows_of_2 (link_row_of_2 first))
later_on second first = grind arith

rows_on : (version : ℕ) (first : List ℕ) → KnownOn (row_of version first) (row_of 2 first)
unfolding row_of first_row_of source_row_of sink_row_of link_row_of row_of_2
rows_on version first =
    in_rows_on first event_rows event_rows (first_row_of version first) (first_row_of 2 first) (same_rows event_rows)
    (search (in_rows_on, first_rows, first_rows_on, source_rows, same_rows, sink_rows, link_rows, later_on, nat_eq))

-- ---- a line

step_on : (version : ℕ) (line : List ℕ) → ReadsOn (step_of version line) (step_of 2 line)
unfolding step_of
step_on version line = search (then_on, first_on, rows_on)

reads_on : (version : ℕ) (line : List ℕ) → ReadsOn (read_of version line) (read_of 2 line)
unfolding read_of
reads_on version line = grind (arith, first_on, step_on)

-- the line isn't of the grammar
abbrev pub IsUnsaid : Said → Type 0
IsUnsaid (unsaid (BadLine word)) = Unit {0}
IsUnsaid _ = ⊥

-- a line that is of the grammar of a version says the same in a later one
pub said_later : (version later : ℕ) (line : TextLine) → IsLater version later
    → (said_in later line ≡ said_in version line) ⊎ IsUnsaid (said_in version line)
said_later version later line h3 = grind (arith, reads_on)

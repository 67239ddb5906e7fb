-- What holds of each row of the table, whatever its step: its first word begins no comment, its numbers fit 64 bits, and a
-- place that takes all words that are left is its last.
use Rattle.scenario_text.proofs.Prelude.{◌≡◌, ℕ, Bool, true, false, cond, nat_eq, nat_lt, ◌^◌, ◌&&◌, ◌||◌, not, List, [], ◌∷◌, Option, None, Some, ⊤, and_parts, Place, one, perhaps, rising, wishes, is_small, Row, row_in, event_rows, first_rows, source_rows, sink_rows, link_rows, rows_of_2, link_rows_of_2, arith}
use Rattle.std.specs.Str.{bytes_eq}
use Rattle.std.proofs.lemmas.Slice.Eq.{bytes_eq-Decides}
use Rattle.scenario_text.specs.Table.{row_of, first_row_of, source_row_of, sink_row_of, link_row_of, row_of_2, link_row_of_2}

abbrev pub all_small : List Place → Bool
all_small [] = true
all_small (place ∷ places) = is_small place && all_small places

abbrev pub takes_all : Place → Bool
takes_all (wishes most) = true
takes_all (one place) = false
takes_all (perhaps least greatest) = true
takes_all rising = true

abbrev pub none_more : List Place → Bool
none_more [] = true
none_more (place ∷ places) = false

abbrev pub takes_all_last : List Place → Bool
takes_all_last [] = true
takes_all_last (place ∷ places) = (none_more places || not (takes_all place)) && takes_all_last places

abbrev pub is_word : List ℕ → Bool
is_word [] = false
is_word (octet ∷ word) = not (nat_eq octet 35)

abbrev pub is_fine : Row → Bool
is_fine row = is_word row.first && (all_small row.places && takes_all_last row.places)

pub record Fine (first : List ℕ) (row : Row) : Type 0 where
  pub same : first ≡ row.first
  pub fine : is_fine row ≡ true

-- ---- what holds of each row holds of the one with a first word

abbrev pub Each : (Row → Type 0) → List Row → Type 0
Each P [] = ⊤
Each P (row ∷ rows) = P row × Each P rows

pub record EachRow (P : Row → Type 0) (version : ℕ) : Type 0 where
  pub of_events : Each P event_rows
  pub first : Each P (first_rows version)
  pub of_sources : Each P source_rows
  pub of_sinks : Each P sink_rows
  pub of_links : Each P link_rows
  pub later : Each P rows_of_2
  pub of_later_links : Each P link_rows_of_2

chosen : (P : Row → Type 0) (b : Bool) (this : Row) (other : Option Row) (row : Row) → P this → (other ≡ Some row → P row) → cond b (Some this) other ≡ Some row → P row
chosen x1 b this other row holds others e = grind arith

in_rows : (P : Row → Type 0) (first : List ℕ) (rows : List Row) (other : Option Row) (row : Row) → Each P rows → (other ≡ Some row → P row)
    → row_in first rows other ≡ Some row → P row
in_rows P first [] other row each others e = others e
in_rows P first (this ∷ rows) other row each others e =
    chosen P (bytes_eq first this.first) this (row_in first rows other) row each.0 (in_rows P first rows other row each.1 others) e

none_is : {P : Type 0} (row : Row) → None ≡ Some row → P
none_is row e = absurd cc

in_rows_of_2 : (P : Row → Type 0) (b : Bool) (first : List ℕ) (row : Row) → Each P rows_of_2 → Each P link_rows_of_2
    → cond b (row_in first rows_of_2 (link_row_of_2 first)) None ≡ Some row → P row
unfolding link_row_of_2
in_rows_of_2 x1 b first row later links e = grind (arith, in_rows, rows_of_2, link_rows_of_2, none_is)

pub of_each_row : (P : Row → Type 0) (version : ℕ) (first : List ℕ) (row : Row) → EachRow P version → row_of version first ≡ Some row → P row
unfolding row_of first_row_of source_row_of sink_row_of link_row_of row_of_2
of_each_row P version first row each e =
    in_rows P first event_rows (first_row_of version first) row each.of_events
    (in_rows P first (first_rows version) (source_row_of version first) row each.first
    (in_rows P first source_rows (sink_row_of version first) row each.of_sources
    (in_rows P first sink_rows (link_row_of version first) row each.of_sinks
    (in_rows P first link_rows (row_of_2 version first) row each.of_links
    (in_rows_of_2 P (nat_eq version 2) first row each.later each.of_later_links))))) e

-- ---- its first word is the one that was looked for

is_first : (b : Bool) (first : List ℕ) (this : Row) (other : Option Row) (row : Row) → (b ≡ true → first ≡ this.first) → (other ≡ Some row → first ≡ row.first)
    → cond b (Some this) other ≡ Some row → first ≡ row.first
is_first b first this other row same others e = grind arith

firsts_in : (first : List ℕ) (rows : List Row) (other : Option Row) (row : Row) → (other ≡ Some row → first ≡ row.first) → row_in first rows other ≡ Some row → first ≡ row.first
firsts_in first [] other row others e = others e
firsts_in first (this ∷ rows) other row others e =
    is_first (bytes_eq first this.first) first this (row_in first rows other) row (bytes_eq-Decides first this.first).0 (firsts_in first rows other row others) e

firsts_of_2 : (b : Bool) (first : List ℕ) (row : Row) → cond b (row_in first rows_of_2 (link_row_of_2 first)) None ≡ Some row → first ≡ row.first
unfolding link_row_of_2
firsts_of_2 true first row e = firsts_in first rows_of_2 (link_row_of_2 first) row (firsts_in first link_rows_of_2 None row (none_is row)) e
firsts_of_2 false first row e = absurd cc

same_first : (version : ℕ) (first : List ℕ) (row : Row) → row_of version first ≡ Some row → first ≡ row.first
unfolding row_of first_row_of source_row_of sink_row_of link_row_of row_of_2
same_first version first row e =
    firsts_in first event_rows (first_row_of version first) row (firsts_in first (first_rows version) (source_row_of version first) row
    (firsts_in first source_rows (sink_row_of version first) row
    (firsts_in first sink_rows (link_row_of version first) row (firsts_in first link_rows (row_of_2 version first) row (firsts_of_2 (nat_eq version 2) first row))))) e

-- ---- each row is fine

abbrev IsFine : Row → Type 0
IsFine row = is_fine row ≡ true

most_slots_small : (b : Bool) → nat_lt (cond b 8 4) (2 ^ 64) ≡ true
most_slots_small b = grind arith

all_rows_fine : (version : ℕ) → EachRow IsFine version
all_rows_fine version =
    grind (arith, and_parts, event_rows, first_rows, most_slots_small, nat_eq, source_rows, sink_rows, link_rows, rows_of_2, link_rows_of_2)

pub of_table : (version : ℕ) (first : List ℕ) (row : Row) → row_of version first ≡ Some row → Fine first row
of_table version first row e =
    record { same = same_first version first row e; fine = of_each_row IsFine version first row (all_rows_fine version) e }

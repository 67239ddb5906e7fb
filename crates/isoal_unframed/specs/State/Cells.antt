-- What the cells and the block of a ring keep: cell by cell, the part at the front of the cell's octets in the block.
use Rattle.std.specs.Prelude.{ℕ, ◌+◌, ◌-◌, ◌≤◌, nat_le, if◌then◌else◌, Bool, true, false, List, [], ◌∷◌, ◌++◌, take, drop, Option, Some, None}
use Rattle.iso_pdu.specs.Layout.{Content, end, fragment}
use Rattle.isoal_unframed.specs.declared.cell.Cell.{Cell}
use Rattle.isoal_unframed.specs.declared.cell.Cell.TheVariants.{Empty, Fragment, End}

-- how many octets a cell keeps
abbrev pub count_of : Cell → ℕ
count_of Empty = 0
count_of (Fragment count) = count
count_of (End count) = count

-- it keeps at most so many octets
abbrev pub Within : ℕ → Cell → Type 0
Within most cell = count_of cell ≤ most

-- what is kept of a number, where its octets begin here
abbrev pub entry_in : Cell → List ℕ → Option Content
entry_in Empty block = None
entry_in (Fragment count) block = Some (fragment (take count block))
entry_in (End count) block = Some (end (take count block))

abbrev pub kept_in : ℕ → List Cell → List ℕ → List (Option Content)
kept_in max_pdu [] block = []
kept_in max_pdu (cell ∷ cells) block = entry_in cell block ∷ kept_in max_pdu cells (drop max_pdu block)

-- the octets held of a slot, by its cells
abbrev pub held_cells : ℕ → List Cell → ℕ
held_cells room [] = 0
held_cells room (Empty ∷ cells) = 0
held_cells room (End count ∷ cells) = if nat_le count room then count else 0
held_cells room (Fragment count ∷ cells) = if nat_le count room then count + held_cells (room - count) cells else 0

-- what a part is read as
abbrev pub part_of : Bool → List ℕ → Content
part_of true octets = end octets
part_of false octets = fragment octets

-- a ring, read from this place on
abbrev pub turned : ℕ → List (Option Content) → List (Option Content)
turned place kept = drop place kept ++ take place kept

-- How the streams that a sink takes are chosen one by one.
use Rattle.std.specs.Prelude.{ℕ, ◌≡◌, ◌+◌, ◌-◌, ◌^◌, ◌==◌, Bool, List, length, map, take, bit_or, IsTrue, if◌then◌else◌}
use Rattle.std.specs.List.{filter, range_with_len}
use Rattle.base_grammar.specs.declared.subgroup.Subgroup.{Subgroup}
use Rattle.base_grammar.specs.Layout.{Endpoint, bis_of, indices, stands_in}
use Rattle.delegator_history.specs.Trains.{is_candidate, set_with}
use Rattle.delegator_choices.specs.declared.choosing.Choice.{Choice}
use Rattle.delegator_choices.specs.declared.choosing.Taking.{Taking}

-- the streams of the subgroup are streams of the BASE
abbrev pub IsPart : Subgroup → Endpoint → Type 0
IsPart subgroup base = (bis : ℕ) → IsTrue (stands_in (map bis_of subgroup.entries) bis) → IsTrue (stands_in (indices base.subgroups) bis)

abbrev pub is_chosen : Choice → ℕ → Bool
is_chosen choice bis = is_candidate choice.capability.now choice.base.now choice.num_bis choice.wanted choice.subgroup.now bis

-- the candidates from this index on
abbrev pub left_of : Choice → ℕ → List ℕ
left_of choice index = filter (is_chosen choice) (range_with_len index (32 - index))

abbrev pub chosen_of : Choice → List ℕ
chosen_of choice = filter (is_chosen choice) (range_with_len 1 31)

-- the set with a stream more, where there is room
abbrev pub with_one : ℕ → ℕ → ℕ → ℕ
with_one room bis set = if room == 0 then set else bit_or set (2 ^ (bis - 1))

-- of these streams those are taken for which there is room
pub record Takes (streams : List ℕ) (first last : Taking) : Type 0 where
  pub room : last.room ≡ first.room - length streams
  pub which : last.which ≡ set_with first.which (take first.room streams)
  pub bits : last.bits ≡ set_with first.bits (take first.room streams)

-- those that are still to be taken lead from here to what all lead to from the first
pub record Leads (all : List ℕ) (first : Taking) (rest : List ℕ) (now : Taking) : Type 0 where
  pub room : now.room - length rest ≡ first.room - length all
  pub which : set_with now.which (take now.room rest) ≡ set_with first.which (take first.room all)
  pub bits : set_with now.bits (take now.room rest) ≡ set_with first.bits (take first.room all)

-- whatever the candidates from this index on lead to, those behind it lead to
abbrev pub GoesOn : Choice → ℕ → Taking → Taking → Type 0
GoesOn choice index now next = (all : List ℕ) (first : Taking) → Leads all first (left_of choice index) now → Leads all first (left_of choice (index + 1)) next

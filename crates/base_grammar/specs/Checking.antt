-- How a set stands for the indices that were met in a BASE (Basic Audio Profile 1.0, section 3.7.2.2), where its octets are
-- looked through and nothing is kept of them.
use Rattle.std.specs.Prelude.{ℕ, ◌≡◌, ◌≤◌, ◌↔◌, List, [], ◌∷◌, ◌++◌, map, Result, Ok, Err, IsTrue}
use Rattle.bcast_base.specs.Bis.{Has}
use Rattle.base_grammar.specs.declared.fault.BaseFault.{BaseFault}
use Rattle.base_grammar.specs.declared.subgroup.BaseEntry.{BaseEntry}
use Rattle.base_grammar.specs.declared.subgroup.Subgroup.{Subgroup}
use Rattle.base_grammar.specs.Layout.{bis_of, stands_in}

-- the set has these indices
abbrev pub Seen : ℕ → List ℕ → Type 0
Seen set before = (bis : ℕ) → 1 ≤ bis → bis ≤ 31 → Has set bis ↔ IsTrue (stands_in before bis)

-- something is read behind these indices, and the set has its indices too
pub record Passed {X : Type 0} (more : X → List ℕ) (before : List ℕ) (set : ℕ) (rest : List ℕ) (read : Result (X × List ℕ) BaseFault) : Type 0 where
  pub value : X
  pub same : read ≡ Ok (value, rest)
  pub seen : Seen set (before ++ more value)

-- a function passed over what is read, or answers its fault; the octets that it left are seen by view
abbrev pub Passes : {X R : Type 0} → (X → List ℕ) → List ℕ → ℕ → (R → List ℕ) → Result R BaseFault → Result (X × List ℕ) BaseFault → Type 0
Passes more before set view (Ok left) read = Passed more before set (view left) read
Passes more before set view (Err fault) read = read ≡ Err fault

-- the indices of an index, an entry, entries, a subgroup
abbrev pub same_bis : ℕ → List ℕ
same_bis bis = bis ∷ []

abbrev pub entry_bis : BaseEntry → List ℕ
entry_bis e = e.bis ∷ []

abbrev pub entries_bis : List BaseEntry → List ℕ
entries_bis entries = map bis_of entries

abbrev pub subgroup_bis : Subgroup → List ℕ
subgroup_bis s = map bis_of s.entries

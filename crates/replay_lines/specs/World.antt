-- The outside of a run of a text, before or after it: its source, its sink and its boxes. They are this project's own.
use Rattle.std.specs.Prelude.{ℕ, List, Option}
use Rattle.unit_outlets.specs.Account.{Account}

pub record World : Type 0 where
  pub left : Option (List ℕ)  -- the octets that the source has left, where it tells them
  pub reads : ℕ  -- the source's count of faults
  pub taken : Option (List ℕ)  -- the octets that the sink took, where it tells them
  pub writes : ℕ  -- the sink's count of faults
  pub boxes : List Account  -- the accounts of the boxes

abbrev pub world_of : {S K : Type 0} → (S → Option (List ℕ)) → (S → ℕ) → (K → Option (List ℕ)) → (K → ℕ) → S → K → List Account → World
world_of left reads taken writes source sink boxes = record {
  left = left source;
  reads = reads source;
  taken = taken sink;
  writes = writes sink;
  boxes = boxes;
}

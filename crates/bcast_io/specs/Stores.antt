-- What a caller sees of the sources and sinks over memory, and of the adapters over std. They are this project's own.
use Rattle.std.specs.Prelude.{ℕ, List}
use Rattle.bcast_io.specs.Scripts.{Script}

-- a source: the octets left, and the most of them that one call gives
pub record Supply : Type 0 where
  pub left : List ℕ
  pub piece : ℕ

-- a source that fails at listed calls
pub record ScriptedSupply : Type 0 where
  pub left : List ℕ
  pub piece : ℕ
  pub script : Script

-- a sink that fails at listed calls: the octets taken, and the most of them that one call takes
pub record ScriptedStore : Type 0 where
  pub taken : List ℕ
  pub piece : ℕ
  pub script : Script

-- a source that repeats a line for ever: `at` is the place in it of the next octet
pub record Loop : Type 0 where
  pub line : List ℕ
  pub at : ℕ
  pub piece : ℕ

-- a reader or a writer of std, with its count of faults
pub record Adapted (X : Type 0) : Type 0 where
  pub inner : X
  pub faults : ℕ

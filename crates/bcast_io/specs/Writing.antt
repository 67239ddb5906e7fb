-- A write that was cut short. Sinks are this project's own.
use Rattle.std.specs.Prelude.{ℕ, ◌≡◌, ◌<◌, List, ◌++◌, length, Option}
use Rattle.std.specs.Io.KnownBytes.{Appends}

-- known octets grew by a prefix of these
pub record AppendsPrefix (old new : Option (List ℕ)) (from : List ℕ) : Type 0 where
  pub prefix : List ℕ
  pub rest : List ℕ
  pub whole : from ≡ prefix ++ rest
  pub appended : Appends old new prefix

-- known octets grew by a prefix of these, and octets of them are left
pub record AppendsShort (old new : Option (List ℕ)) (from : List ℕ) : Type 0 where
  pub prefix : List ℕ
  pub rest : List ℕ
  pub whole : from ≡ prefix ++ rest
  pub appended : Appends old new prefix
  pub some : 0 < length rest

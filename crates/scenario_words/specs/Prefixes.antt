-- A text that was put in part, as where memory runs out before its end. The texts are this project's own.
use Rattle.std.specs.Prelude.{ℕ, ◌≡◌, List, ◌++◌}

-- a prefix of the text stands at the end of what was there
pub record APrefix (old new text : List ℕ) : Type 0 where
  pub prefix : List ℕ
  pub rest : List ℕ
  pub whole : text ≡ prefix ++ rest
  pub put : new ≡ old ++ prefix

-- the text stands at the end of what was there, but for this rest of it
pub record PutUpTo (old new text rest : List ℕ) : Type 0 where
  pub prefix : List ℕ
  pub whole : text ≡ prefix ++ rest
  pub put : new ≡ old ++ prefix

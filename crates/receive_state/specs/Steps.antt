-- Reading one field behind the other, which is this project's own: up to the place of the first one that passes the end.
use Rattle.std.specs.Prelude.{ℕ, List, Option, Result}
use Rattle.bcast_base.specs.Reading.{place_in}
use Rattle.bcast_base.specs.Tries.{needed}

-- a field at the front of the last octets of the whole
abbrev pub field_in : {A : Type 0} → List ℕ → (List ℕ → Option A) → List ℕ → Result A ℕ
field_in whole read rest = needed (place_in whole rest) (read rest)

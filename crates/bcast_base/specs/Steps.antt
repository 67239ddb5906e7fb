-- Reading one field behind the other, which is this project's own: nothing is read where one of them is not whole.
use Rattle.std.specs.Prelude.{List, [], Option, Some, None}

infixl 10 ◌>>=◌
abbrev pub ◌>>=◌ : {A B : Type 0} → Option A → (A → Option B) → Option B
(Some x) >>= f = f x
None >>= f = None

abbrev pub whole : {A B : Type 0} → Option (A × List B) → Option A
whole (Some (x, [])) = Some x
whole _ = None

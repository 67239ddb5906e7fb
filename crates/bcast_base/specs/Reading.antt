-- Reading a field from the front: its value and the octets after it, or nothing where the field isn't whole.
-- Numbers have the least octet first (Core 5.2, volume 6 part B, section 1.2).
use Rattle.std.specs.Prelude.{ℕ, ◌≡◌, ◌++◌, ◌-◌, List, [], ◌∷◌, length, take, drop, Option, Some, None, nat_lt, if◌then◌else◌}
use Rattle.bcast_base.specs.Numbers.{sum_from}
use Rattle.bcast_base.specs.Encoding.{IsOctets}

abbrev pub octets_in : ℕ → List ℕ → Option (List ℕ × List ℕ)
octets_in k from = if nat_lt (length from) k then None else Some (take k from, drop k from)

abbrev pub octet_in : List ℕ → Option (ℕ × List ℕ)
octet_in [] = None
octet_in (octet ∷ rest) = Some (octet, rest)

abbrev pub number_in : ℕ → List ℕ → Option (ℕ × List ℕ)
number_in k from = if nat_lt (length from) k then None else Some (sum_from 0 (take k from), drop k from)

abbrev pub counted_in : List ℕ → Option (List ℕ × List ℕ)
counted_in [] = None
counted_in (count ∷ rest) = octets_in count rest

-- what a function returned, seen by view, is what reading gives
abbrev pub Gives : {X Y : Type 0} → (X → Y) → Option X → Option Y → Type 0
Gives view None read = read ≡ None
Gives view (Some x) read = read ≡ Some (view x)

-- these octets were taken from the front
pub record Takes (from taken rest : List ℕ) : Type 0 where
  pub parts : from ≡ taken ++ rest
  pub fits : IsOctets from → IsOctets rest

-- the place, from 0, in the whole input at which these last octets of it begin
abbrev pub place_in : List ℕ → List ℕ → ℕ
place_in whole rest = length whole - length rest

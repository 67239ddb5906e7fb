-- Rooms for the octets of units, which were made beforehand.
use Rattle.std.specs.Prelude.{ℕ, ◌≤◌, nat_le, List, All, Vec, vec_capacity, if◌then◌else◌}
use Rattle.std_heap.specs.declared.Global.{Global}

-- 1 where the vector has room for so many octets
abbrev pub roomy : ℕ → Vec ℕ Global → ℕ
roomy octets room = if nat_le octets (vec_capacity room) then 1 else 0

-- each has room for so many octets
abbrev pub AreRooms : ℕ → List (Vec ℕ Global) → Type 0
AreRooms octets rooms = All (λ room. octets ≤ vec_capacity room) rooms

-- Why octets are no operation (Broadcast Audio Scan Service 1.0, section 3.1.1). At most one of these holds.
use Rattle.std.specs.Prelude.{ℕ, ◌≡◌, ◌<◌, ◌≤◌, List, [], ◌∷◌, length}
use Rattle.bcast_base.specs.Layout.{NoneReserved, FirstReserved}
use Rattle.bass_operations.specs.declared.fault.OpFault.{OpFault}
use Rattle.bass_operations.specs.declared.fault.OpFault.TheVariants.{Empty, Opcode, Length, Rfu, BisTwice, Memory}
use Rattle.bass_operations.specs.declared.operation.Operation.{Operation}
use Rattle.bass_operations.specs.Layout.{fields, wishes_of, IsLaid, OpIs}
use Rattle.bass_operations.specs.Twice.{IsLowestTwice}

-- the first octet
abbrev pub BeginsWith : (ℕ → Type 0) → List ℕ → Type 0
BeginsWith P [] = ⊥
BeginsWith P (opcode ∷ rest) = P opcode

-- this is what is wrong with the octets; only an operation that has a subgroup is refused for want of memory
abbrev pub IsFault : OpFault → List ℕ → Type 0
IsFault Empty octets = octets ≡ []
IsFault Opcode octets = BeginsWith (λ opcode. 5 < opcode) octets
IsFault Length octets = BeginsWith (λ opcode. opcode ≤ 5) octets × ((op : Operation) → ¬ IsLaid op octets)
IsFault (Rfu place) octets = (op : Operation) × IsLaid op octets × FirstReserved place (fields op)
IsFault (BisTwice bis) octets = (op : Operation) × IsLaid op octets × NoneReserved (fields op) × IsLowestTwice bis (wishes_of op)
IsFault Memory octets = (op : Operation) × OpIs op octets × (0 < length (wishes_of op))

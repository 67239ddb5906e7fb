-- A set bit of a stream stands only in the slot whose group the sink is on, whatever the sink has.
use Rattle.delegator_machine.proofs.Prelude.{Snapshot, entry_at, bits_on}
use Rattle.delegator_machine.specs.Bits.{BitsStand}

pub bits_stand : (snapshot : Snapshot) → BitsStand snapshot
bits_stand snapshot = record { only = λ slot state is has. bits_on snapshot.place snapshot.encrypted snapshot.taken slot (entry_at snapshot.slots slot) state is has }

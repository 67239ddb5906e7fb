-- What octets or items that are lent to be written to end as.
use Rattle.std.specs.Prelude.{ℕ, List, ◌++◌, length, take, drop, slice_set}
use Rattle.std.specs.Borrow.{Array, Fml, Lends, MutBor, RattleType, u8}
use Rattle.bcast_base.specs.contracts.items.Items.{the_row as items_row}
use Rattle.bcast_base.specs.contracts.octets.Octets.{the_row}

-- what is left in the slice stands in the place of the octets; it has as many as they are
abbrev pub refilled : List ℕ → List ℕ → List ℕ
refilled octets left = take (length octets) (left ++ drop (length left) octets)

abbrev pub LendsOctets : MutBor (List ℕ) → MutBor (List ℕ) → Fml
LendsOctets octets slice = Lends the_row (Array u8 0) octets slice (refilled octets.now)

-- what is left in the item stands at its place
abbrev pub LendsItem : (T : RattleType) → MutBor (List T.Denot) → ℕ → MutBor T.Denot → Fml
LendsItem T items i item = Lends (items_row T) T items item (slice_set items.now i)

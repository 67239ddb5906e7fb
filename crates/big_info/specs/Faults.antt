-- The faults of a group (after Core 5.2, volume 6 part B, section 4.4.6, and part G, section 2) in the order of test,
-- numbered from 1. Their order and numbers are this project's own.
use Rattle.std.specs.Prelude.{ℕ, List, [], ◌∷◌}
use Rattle.big_info.specs.declared.fault.GroupFault.{GroupFault}
use Rattle.big_info.specs.declared.fault.GroupFault.TheVariants.{RangeIso, RangeSdu, RangePdu, Bn, NseNotMultiple, Irc, PhyNotSupported, FramedPduSmall, UnframedMultiple}
use Rattle.big_info.specs.declared.fault.GroupFault.TheVariants.{UnframedBn, Horizon, SubInterval, SyncDelay, Encrypted}

abbrev pub faults : List GroupFault
faults = RangeIso ∷ RangeSdu ∷ RangePdu ∷ Bn ∷ NseNotMultiple ∷ Irc ∷ PhyNotSupported ∷ FramedPduSmall ∷ UnframedMultiple ∷
    UnframedBn ∷ Horizon ∷ SubInterval ∷ SyncDelay ∷ Encrypted ∷ []

abbrev pub number_of : GroupFault → ℕ
number_of RangeIso = 1
number_of RangeSdu = 2
number_of RangePdu = 3
number_of Bn = 4
number_of NseNotMultiple = 5
number_of Irc = 6
number_of PhyNotSupported = 7
number_of FramedPduSmall = 8
number_of UnframedMultiple = 9
number_of UnframedBn = 10
number_of Horizon = 11
number_of SubInterval = 12
number_of SyncDelay = 13
number_of Encrypted = 14

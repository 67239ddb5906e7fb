-- When the parameters of a group are refused (after Core 5.2, volume 6 part B, section 4.4.6, and part G, section 2),
-- and which refusal is answered: the first that holds.
use Rattle.std.specs.Prelude.{ℕ, ◌+◌, ◌*◌, ◌%◌, ◌<◌, Bool, not, ◌&&◌, ◌||◌, ◌==◌, nat_lt, is_some, IsTrue, IsFalse, Option}
use Rattle.std.specs.List.{find}
use Rattle.big_info.specs.declared.info.BigInfo.{BigInfo}
use Rattle.big_info.specs.declared.fault.GroupFault.{GroupFault}
use Rattle.big_info.specs.declared.fault.GroupFault.TheVariants.{RangeIso, RangeSdu, RangePdu, Bn, NseNotMultiple, Irc, PhyNotSupported, FramedPduSmall, UnframedMultiple}
use Rattle.big_info.specs.declared.fault.GroupFault.TheVariants.{UnframedBn, Horizon, SubInterval, SyncDelay, Encrypted}
use Rattle.big_info.specs.Faults.{faults, number_of}
use Rattle.big_info.specs.Schedule.{group_count, horizon_of, per_event_of, per_unit_of}
use Rattle.big_info.specs.Time.{iso_us_of, mpt_of, sync_delay_of}

abbrev pub is_unframed : BigInfo → Bool
is_unframed info = info.framing == 0

abbrev pub is_framed : BigInfo → Bool
is_framed info = info.framing == 1

-- whether the fault holds of the info, where the horizon of a group is at most `greatest`
abbrev pub has_fault : ℕ → BigInfo → GroupFault → Bool
has_fault greatest info RangeIso = nat_lt info.iso_interval 4 || nat_lt 3200 info.iso_interval || (info.num_bis == 0)
has_fault greatest info RangeSdu = nat_lt info.sdu_interval 255 || (info.max_sdu == 0)
has_fault greatest info RangePdu = (info.max_pdu == 0) || nat_lt 251 info.max_pdu
has_fault greatest info Bn = info.bn == 0
has_fault greatest info NseNotMultiple = (info.nse == 0) || not (info.nse % info.bn == 0)
has_fault greatest info Irc = (info.irc == 0) || nat_lt (group_count info) info.irc
has_fault greatest info PhyNotSupported = not (info.phy == 0) && not (info.phy == 1)
has_fault greatest info FramedPduSmall = is_framed info && nat_lt info.max_pdu 8
has_fault greatest info UnframedMultiple = is_unframed info && not (iso_us_of info % info.sdu_interval == 0)
has_fault greatest info UnframedBn = is_unframed info && not (info.bn == per_event_of info * per_unit_of info)
has_fault greatest info Horizon = nat_lt greatest (horizon_of info)
has_fault greatest info SubInterval = nat_lt 1 info.nse && nat_lt info.sub_interval (mpt_of info + 150)
has_fault greatest info SyncDelay = nat_lt (iso_us_of info) (sync_delay_of info)
has_fault greatest info Encrypted = is_some info.cipher

unfoldable pub first_fault : ℕ → BigInfo → Option GroupFault
first_fault greatest info = find (has_fault greatest info) faults

abbrev pub NoFault : ℕ → BigInfo → Type 0
NoFault greatest info = (fault : GroupFault) → IsFalse (has_fault greatest info fault)

-- this fault holds, and none before it does
pub record IsFirstFault (greatest : ℕ) (info : BigInfo) (fault : GroupFault) : Type 0 where
  pub holds : IsTrue (has_fault greatest info fault)
  pub none_before : (other : GroupFault) → number_of other < number_of fault → IsFalse (has_fault greatest info other)

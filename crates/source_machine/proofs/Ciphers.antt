-- Where no row of the group check holds but that of a cipher, none holds of the group without its cipher.
use Rattle.source_machine.proofs.Prelude.{ℕ, ◌+◌, ◌*◌, ◌≤◌, Bool, cond, eqb, refl, arith, lit<, Result, IsTrue, IsFalse, IfErr, nat_lt, ◌&&◌, IsOk, Group, BigInfo, iso_us_of, mic_octets, mpt_of, sync_delay_of, without_cipher, RangeIso, RangeSdu, RangePdu, Bn, NseNotMultiple, Irc, PhyNotSupported, FramedPduSmall, UnframedMultiple, UnframedBn, Horizon, SubInterval, SyncDelay, Encrypted}
use Rattle.std.proofs.lemmas.Bool.Decides.{nat_tests}
use Rattle.big_info.specs.declared.fault.GroupFault.{GroupFault}
use Rattle.big_info.specs.Rows.{NoFault, IsFirstFault}

longer : (one_m : Bool) (octets mic : ℕ) → cond one_m ((octets + 0 + 10) * 8) ((octets + 0 + 11) * 4) ≤ cond one_m ((octets + mic + 10) * 8) ((octets + mic + 11) * 4)
longer one_m octets mic = grind arith

mpt_within : (info : BigInfo) → mpt_of (without_cipher info) ≤ mpt_of info
mpt_within info = longer (eqb info.phy 0) info.max_pdu (mic_octets info)

not_below : (limit most least : ℕ) → least ≤ most → IsFalse (nat_lt limit most) → IsFalse (nat_lt limit least)
not_below limit most least within none = grind (arith, nat_tests, none)

not_short : (several : Bool) (interval most least : ℕ) → least ≤ most → IsFalse (several && nat_lt interval most) → IsFalse (several && nat_lt interval least)
not_short several interval most least within none = grind (arith, not_below)

pub none_holds : (horizon : ℕ) (info : BigInfo) → IsFirstFault horizon info Encrypted → NoFault horizon (without_cipher info)
none_holds horizon info first RangeIso = first.none_before RangeIso (lit< tt)
none_holds horizon info first RangeSdu = first.none_before RangeSdu (lit< tt)
none_holds horizon info first RangePdu = first.none_before RangePdu (lit< tt)
none_holds horizon info first Bn = first.none_before Bn (lit< tt)
none_holds horizon info first NseNotMultiple = first.none_before NseNotMultiple (lit< tt)
none_holds horizon info first Irc = first.none_before Irc (lit< tt)
none_holds horizon info first PhyNotSupported = first.none_before PhyNotSupported (lit< tt)
none_holds horizon info first FramedPduSmall = first.none_before FramedPduSmall (lit< tt)
none_holds horizon info first UnframedMultiple = first.none_before UnframedMultiple (lit< tt)
none_holds horizon info first UnframedBn = first.none_before UnframedBn (lit< tt)
none_holds horizon info first Horizon = first.none_before Horizon (lit< tt)
none_holds horizon info first SubInterval =
    let within : mpt_of (without_cipher info) ≤ mpt_of info = mpt_within info in
    not_short (nat_lt 1 info.nse) info.sub_interval (mpt_of info + 150) (mpt_of (without_cipher info) + 150) (omega arith)
    (first.none_before SubInterval (lit< tt))
none_holds horizon info first SyncDelay =
    let within : mpt_of (without_cipher info) ≤ mpt_of info = mpt_within info in
    not_below (iso_us_of info) (sync_delay_of info) (sync_delay_of (without_cipher info)) (omega arith) (first.none_before SyncDelay (lit< tt))
none_holds horizon info first Encrypted = refl

both_ways : (b : Bool) → IsTrue b → IsFalse b → ⊥
both_ways b holds fails = cc

pub is_checked : (horizon : ℕ) (info : BigInfo) (checked : Result Group GroupFault) → IfErr checked (IsFirstFault horizon info) → NoFault horizon info → IsOk checked
is_checked horizon info checked first none = grind (arith, both_ways)

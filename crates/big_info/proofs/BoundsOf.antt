-- From "no fault holds" to the bounds of the numbers.
use Rattle.big_info.proofs.Prelude.{◌≡◌, ℕ, ◌*◌, ◌/◌, ◌%◌, arith, nat_tests, BigInfo, RangeIso, RangeSdu, RangePdu, Bn, NseNotMultiple, Irc, PhyNotSupported, FramedPduSmall, UnframedMultiple, UnframedBn, Horizon, SubInterval, SyncDelay, Encrypted, NoFault, mod-add-div'}
use Rattle.big_info.specs.Bounds.{Bounds}
use Rattle.big_info.specs.Time.{iso_us_of}

whole_quotient : (a b : ℕ) → a % b ≡ 0 → a / b * b ≡ a
whole_quotient a b h = omega (arith, mod-add-div' a b)

pub bounds_of : (info : BigInfo) → NoFault 31 info → Bounds info
bounds_of info none = record {
  iso_least = grind (arith, nat_tests, none RangeIso);
  iso_greatest = grind (arith, nat_tests, none RangeIso);
  num_bis = grind (arith, nat_tests, none RangeIso);
  sdu_interval = grind (arith, nat_tests, none RangeSdu);
  max_sdu = grind (arith, nat_tests, none RangeSdu);
  max_pdu_least = grind (arith, nat_tests, none RangePdu);
  max_pdu_greatest = grind (arith, nat_tests, none RangePdu);
  bn = grind (arith, nat_tests, none Bn);
  nse = grind (arith, nat_tests, none NseNotMultiple);
  whole_groups = whole_quotient info.nse info.bn (grind (arith, nat_tests, none NseNotMultiple));
  irc_least = grind (arith, nat_tests, none Irc);
  irc_greatest = grind (arith, nat_tests, none Irc);
  phy = grind (arith, nat_tests, none PhyNotSupported);
  framed_pdu = λ framed. grind (arith, nat_tests, none FramedPduSmall);
  whole_units = λ unframed. whole_quotient (iso_us_of info) info.sdu_interval (grind (arith, nat_tests, none UnframedMultiple));
  whole_slots = λ unframed. grind (arith, nat_tests, none UnframedBn);
  horizon = grind (arith, nat_tests, none Horizon);
  sub_interval = λ several. grind (arith, nat_tests, none SubInterval);
  sync_delay = grind (arith, nat_tests, none SyncDelay);
  plain = none Encrypted;
}

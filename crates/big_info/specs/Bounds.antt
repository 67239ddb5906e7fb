-- What the numbers of a group keep to where no fault of specs/Rows holds (after Core 5.2, volume 6 part B, section 4.4.6,
-- and part G, section 2): for each fault its opposite.
use Rattle.std.specs.Prelude.{◌+◌, ◌*◌, ◌<◌, ◌≤◌, ◌≡◌, IsNone}
use Rattle.big_info.specs.declared.info.BigInfo.{BigInfo}
use Rattle.big_info.specs.Schedule.{group_count, horizon_of, per_event_of, per_unit_of}
use Rattle.big_info.specs.Time.{iso_us_of, mpt_of, sync_delay_of}

pub record Bounds (info : BigInfo) : Type 0 where
  pub iso_least : 4 ≤ info.iso_interval
  pub iso_greatest : info.iso_interval ≤ 3200
  pub num_bis : 1 ≤ info.num_bis
  pub sdu_interval : 255 ≤ info.sdu_interval
  pub max_sdu : 1 ≤ info.max_sdu
  pub max_pdu_least : 1 ≤ info.max_pdu
  pub max_pdu_greatest : info.max_pdu ≤ 251
  pub bn : 1 ≤ info.bn
  pub nse : 1 ≤ info.nse
  pub whole_groups : group_count info * info.bn ≡ info.nse
  pub irc_least : 1 ≤ info.irc
  pub irc_greatest : info.irc ≤ group_count info
  pub phy : info.phy ≤ 1
  pub framed_pdu : info.framing ≡ 1 → 8 ≤ info.max_pdu
  pub whole_units : info.framing ≡ 0 → per_event_of info * info.sdu_interval ≡ iso_us_of info
  pub whole_slots : info.framing ≡ 0 → info.bn ≡ per_event_of info * per_unit_of info
  pub horizon : horizon_of info ≤ 31
  pub sub_interval : 1 < info.nse → mpt_of info + 150 ≤ info.sub_interval
  pub sync_delay : sync_delay_of info ≤ iso_us_of info
  pub plain : IsNone info.cipher

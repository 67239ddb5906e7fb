-- The widths of the fields of the BIGInfo (Core 5.2, volume 6 part B, section 4.4.6.11).
use Rattle.std.specs.Prelude.{◌<◌, ◌^◌}
use Rattle.big_info.specs.declared.info.BigInfo.{BigInfo}

pub record FitsWidths (info : BigInfo) : Type 0 where
  pub big_offset : info.big_offset < 2 ^ 14
  pub big_offset_units : info.big_offset_units < 2 ^ 1
  pub iso_interval : info.iso_interval < 2 ^ 12
  pub num_bis : info.num_bis < 2 ^ 5
  pub nse : info.nse < 2 ^ 5
  pub bn : info.bn < 2 ^ 3
  pub sub_interval : info.sub_interval < 2 ^ 20
  pub pto : info.pto < 2 ^ 4
  pub bis_spacing : info.bis_spacing < 2 ^ 20
  pub irc : info.irc < 2 ^ 4
  pub max_pdu : info.max_pdu < 2 ^ 8
  pub seed_access_address : info.seed_access_address < 2 ^ 32
  pub sdu_interval : info.sdu_interval < 2 ^ 20
  pub max_sdu : info.max_sdu < 2 ^ 12
  pub base_crc_init : info.base_crc_init < 2 ^ 16
  pub chm : info.chm < 2 ^ 37
  pub phy : info.phy < 2 ^ 3
  pub bis_payload_count : info.bis_payload_count < 2 ^ 39
  pub framing : info.framing < 2 ^ 1

-- What C's structs stand for.
use Rattle.std.specs.Prelude.{ℕ, Option, Some, None, if◌then◌else◌}
use Rattle.big_info.specs.declared.info.BigInfo.{BigInfo}
use Rattle.big_info.specs.declared.fault.GroupFault.{GroupFault}
use Rattle.big_info.specs.Faults.{number_of}
use Rattle.c_values.specs.declared.info.AirBigInfo.{AirBigInfo}

-- the info that C's struct stands for
abbrev pub big_info : AirBigInfo → BigInfo
big_info c = record {
  big_offset = c.big_offset;
  big_offset_units = c.big_offset_units;
  iso_interval = c.iso_interval;
  num_bis = c.num_bis;
  nse = c.nse;
  bn = c.bn;
  sub_interval = c.sub_interval;
  pto = c.pto;
  bis_spacing = c.bis_spacing;
  irc = c.irc;
  max_pdu = c.max_pdu;
  seed_access_address = c.seed_access_address;
  sdu_interval = c.sdu_interval;
  max_sdu = c.max_sdu;
  base_crc_init = c.base_crc_init;
  chm = c.chm;
  phy = c.phy;
  bis_payload_count = c.bis_payload_count;
  framing = c.framing;
  cipher = if c.is_encrypted then Some (record { giv = c.giv; gskd = c.gskd }) else None;
}

-- the number of the first row that holds, 0 where none does
abbrev pub row_of : Option GroupFault → ℕ
row_of None = 0
row_of (Some fault) = number_of fault

-- Reading a BIGInfo (Core 5.2, volume 6 part B, section 4.4.6.11): each field is cut by division out of the number that the
-- first 33 octets encode. Behind them an encrypted group has GIV and GSKD.
use Rattle.std.specs.Prelude.{ℕ, ◌/◌, ◌%◌, ◌^◌, ◌==◌, List, length, take, drop, Option, Some, None, Result, Ok, Err, if◌then◌else◌}
use Rattle.bcast_base.specs.Numbers.{sum_from}
use Rattle.big_info.specs.declared.big_fault.BigFault.{BigFault}
use Rattle.big_info.specs.declared.big_fault.BigFault.TheVariants.{Length}
use Rattle.big_info.specs.declared.info.BigInfo.{BigInfo}
use Rattle.big_info.specs.declared.info.Cipher.{Cipher}

-- the field of so many bits from a bit on
abbrev pub cut : ℕ → ℕ → ℕ → ℕ
cut number first bits = number / 2 ^ first % 2 ^ bits

abbrev pub info_from : ℕ → Option Cipher → BigInfo
info_from number cipher = record {
  big_offset = cut number 0 14;
  big_offset_units = cut number 14 1;
  iso_interval = cut number 15 12;
  num_bis = cut number 27 5;
  nse = cut number 32 5;
  bn = cut number 37 3;
  sub_interval = cut number 40 20;
  pto = cut number 60 4;
  bis_spacing = cut number 64 20;
  irc = cut number 84 4;
  max_pdu = cut number 88 8;
  seed_access_address = cut number 104 32;
  sdu_interval = cut number 136 20;
  max_sdu = cut number 156 12;
  base_crc_init = cut number 168 16;
  chm = cut number 184 37;
  phy = cut number 221 3;
  bis_payload_count = cut number 224 39;
  framing = cut number 263 1;
  cipher = cipher;
}

abbrev pub cipher_from : List ℕ → Cipher
cipher_from octets = record { giv = take 8 octets; gskd = drop 8 octets }

abbrev pub info_of : List ℕ → Result BigInfo BigFault
info_of octets = if length octets == 33 then Ok (info_from (sum_from 0 (take 33 octets)) None)
    else (if length octets == 57 then Ok (info_from (sum_from 0 (take 33 octets)) (Some (cipher_from (drop 33 octets)))) else Err Length)

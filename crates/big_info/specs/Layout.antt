-- The layout of the BIGInfo (Core 5.2, volume 6 part B, section 4.4.6.11): the number that its first 33 octets encode
-- is the sum of field × 2 ^ (first bit). Behind them an encrypted group has GIV and GSKD.
use Rattle.std.specs.Prelude.{ℕ, ◌+◌, ◌*◌, ◌^◌, ◌<◌, ◌≤◌, ◌≡◌, List, [], ◌++◌, length, take, drop, slice_index, Option, Some, None, is_some, if◌then◌else◌}
use Rattle.bcast_base.specs.Numbers.{Le}
use Rattle.big_info.specs.declared.info.BigInfo.{BigInfo}
use Rattle.big_info.specs.declared.info.Cipher.{Cipher}
use Rattle.big_info.specs.Widths.{FitsWidths}

-- the sum over the fields, of which RFU is none of the info's own
abbrev pub number_of : BigInfo → ℕ → ℕ
number_of info rfu = info.big_offset * 2 ^ 0 + info.big_offset_units * 2 ^ 14 + info.iso_interval * 2 ^ 15 + info.num_bis * 2 ^ 27 +
    info.nse * 2 ^ 32 + info.bn * 2 ^ 37 + info.sub_interval * 2 ^ 40 + info.pto * 2 ^ 60 +
    info.bis_spacing * 2 ^ 64 + info.irc * 2 ^ 84 + info.max_pdu * 2 ^ 88 + rfu * 2 ^ 96 +
    info.seed_access_address * 2 ^ 104 + info.sdu_interval * 2 ^ 136 + info.max_sdu * 2 ^ 156 +
    info.base_crc_init * 2 ^ 168 + info.chm * 2 ^ 184 + info.phy * 2 ^ 221 +
    info.bis_payload_count * 2 ^ 224 + info.framing * 2 ^ 263

-- the octets behind the fields
abbrev pub CipherIs : Option Cipher → List ℕ → Type 0
CipherIs None octets = octets ≡ []
CipherIs (Some cipher) octets = (length cipher.giv ≡ 8) × (length cipher.gskd ≡ 16) × (octets ≡ cipher.giv ++ cipher.gskd)

-- how many octets the info takes
abbrev pub octet_count : BigInfo → ℕ
octet_count info = if is_some info.cipher then 57 else 33

-- the octets encode the info, with this number as RFU
pub record Encodes (info : BigInfo) (rfu : ℕ) (octets : List ℕ) : Type 0 where
  pub widths : FitsWidths info
  pub rfu_width : rfu < 2 ^ 8
  pub whole : 33 ≤ length octets
  pub fields : Le (number_of info rfu) (take 33 octets)
  pub cipher : CipherIs info.cipher (drop 33 octets)

-- RFU is free
abbrev pub BigIs : BigInfo → List ℕ → Type 0
BigIs info octets = (rfu : ℕ) × Encodes info rfu octets

-- the octets are the same, but for the one of RFU
pub record SameButRfu (one other : List ℕ) : Type 0 where
  pub before : take 12 one ≡ take 12 other
  pub behind : drop 13 one ≡ drop 13 other

-- numbers that octets can be
abbrev pub AreOctets : List ℕ → Type 0
AreOctets octets = (place : ℕ) → slice_index octets place < 256

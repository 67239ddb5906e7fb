-- What a broadcast source sends of itself: the Broadcast_ID in its extended advertising (Basic Audio Profile 1.0, section
-- 3.7.2.1), the BASE in its periodic advertising (section 3.7.2.2), and the BIGInfo in the ACAD of that (Core 5.2, volume 6
-- part B, section 4.4.6.11), each alone in its list of AD structures. That it comes 3,000 µs before the anchor that it
-- tells of, with the BIG_Offset in units of 30 µs, and what stands in SeedAccessAddress, BaseCRCInit and ChM, is this
-- project's own.
use Rattle.std.specs.Prelude.{ℕ, ◌+◌, ◌-◌, ◌*◌, ◌^◌, ◌≡◌, ◌==◌, List, ◌++◌, length, if◌then◌else◌}
use Rattle.bcast_base.specs.Encoding.{number}
use Rattle.ltv_codec.specs.declared.ltvs.Ltv.{Ltv}
use Rattle.ltv_codec.specs.Layout.{structure}
use Rattle.base_grammar.specs.Ad.{service_data_type, broadcast_audio_announcement}
use Rattle.base_grammar.specs.Layout.{Endpoint, BaseIs}
use Rattle.big_info.specs.declared.info.BigInfo.{BigInfo}
use Rattle.big_info.specs.Layout.{Encodes}
use Rattle.announcement_train.specs.declared.train.Train.{Train}

-- the UUID of the Basic Audio Announcement Service
abbrev pub basic_audio_announcement : ℕ
basic_audio_announcement = 0x1851

abbrev pub big_info_type : ℕ
big_info_type = 0x2c

abbrev pub service_ad : ℕ → List ℕ → Ltv
service_ad uuid content = record { kind = service_data_type; value = number 2 uuid ++ content }

abbrev pub info_ad : List ℕ → Ltv
info_ad octets = record { kind = big_info_type; value = octets }

-- from a train to the anchor that it tells of, in µs
abbrev pub lead : ℕ
lead = 3000

-- BIG_Offset in µs
abbrev pub offset_us_of : BigInfo → ℕ
offset_us_of info = info.big_offset * (if info.big_offset_units == 0 then 30 else 300)

-- the BIGInfo of this event: the group's numbers and cipher, the offset of its anchor, and the first of its payload numbers
abbrev pub announced : BigInfo → ℕ → BigInfo
announced info event = record info {
  big_offset = 100;
  big_offset_units = 0;
  seed_access_address = 0;
  base_crc_init = 0;
  chm = 2 ^ 37 - 1;
  bis_payload_count = event * info.bn;
}

-- the train for the event with this anchor
pub record IsTrain (broadcast_id : List ℕ) (base : Endpoint) (info : BigInfo) (event anchor : ℕ) (train : Train) : Type 0 where
  pub three : length broadcast_id ≡ 3
  pub time : train.time + lead ≡ anchor
  pub ext : train.ext ≡ structure (service_ad broadcast_audio_announcement broadcast_id)
  pub base_octets : List ℕ
  pub base_is : BaseIs base base_octets
  pub adv : train.adv ≡ structure (service_ad basic_audio_announcement base_octets)
  pub info_octets : List ℕ
  pub info_is : Encodes (announced info event) 0 info_octets
  pub acad : train.acad ≡ structure (info_ad info_octets)

-- The octets of a train, as those of its parts (Basic Audio Profile 1.0, section 3.7.2; Core 5.2, volume 6 part B, section
-- 4.4.6.11).
use Rattle.std.specs.Prelude.{ℕ, ◌-◌, ◌*◌, ◌<◌, ◌≤◌, ◌≡◌, ◌^◌, List, [], ◌++◌, length, Option, Some, None}
use Rattle.bcast_base.specs.Encoding.{number}
use Rattle.ltv_codec.specs.Layout.{structure}
use Rattle.base_grammar.specs.Ad.{broadcast_audio_announcement}
use Rattle.base_grammar.specs.Layout.{Endpoint, IsBase, encoding}
use Rattle.big_info.specs.declared.info.BigInfo.{BigInfo}
use Rattle.big_info.specs.declared.info.Cipher.{Cipher}
use Rattle.big_info.specs.Layout.{CipherIs, number_of}
use Rattle.big_info.specs.Widths.{FitsWidths}
use Rattle.announcement_train.specs.declared.train.Train.{Train}
use Rattle.announcement_train.specs.Layout.{announced, basic_audio_announcement, info_ad, lead, service_ad}

abbrev pub cipher_octets : Option Cipher → List ℕ
cipher_octets None = []
cipher_octets (Some cipher) = cipher.giv ++ cipher.gskd

abbrev pub info_octets : BigInfo → List ℕ
info_octets info = number 33 (number_of info 0) ++ cipher_octets info.cipher

abbrev pub train_of : List ℕ → Endpoint → BigInfo → ℕ → ℕ → Train
train_of broadcast_id base info event anchor = record {
  time = anchor - lead;
  ext = structure (service_ad broadcast_audio_announcement broadcast_id);
  adv = structure (service_ad basic_audio_announcement (encoding base));
  acad = structure (info_ad (info_octets (announced info event)));
}

-- what a source has to be so that it can announce the event
pub record MayAnnounce (broadcast_id : List ℕ) (base : Endpoint) (info : BigInfo) (event anchor : ℕ) : Type 0 where
  pub three : length broadcast_id ≡ 3
  pub base_is : IsBase base
  pub widths : FitsWidths info
  pub cipher : CipherIs info.cipher (cipher_octets info.cipher)
  pub count : event * info.bn < 2 ^ 39
  pub late : lead ≤ anchor

-- What a receiver is told that reads a train: its first Service Data of each announcement (Basic Audio Profile 1.0, section
-- 3.7.2), and its BIGInfo (Core 5.2, volume 6 part B, section 4.4.6.11).
use Rattle.std.specs.Prelude.{ℕ, ◌+◌, ◌/◌, ◌≡◌, List, [], ◌∷◌, Some, Ok}
use Rattle.ltv_codec.specs.declared.ltvs.Ltv.{Ltv}
use Rattle.ltv_codec.specs.Values.{first_of}
use Rattle.base_grammar.specs.Ad.{first_service}
use Rattle.base_grammar.specs.AdReading.{ads_of, broadcast_id_of}
use Rattle.base_grammar.specs.Layout.{Endpoint, BaseIs}
use Rattle.big_info.specs.declared.info.BigInfo.{BigInfo}
use Rattle.big_info.specs.Layout.{BigIs}
use Rattle.announcement_train.specs.declared.train.Train.{Train}
use Rattle.announcement_train.specs.Layout.{basic_audio_announcement, big_info_type, offset_us_of}

-- the first Basic Audio Announcement of an AD list is this BASE
pub record TellsBase (adv : List ℕ) (base : Endpoint) : Type 0 where
  pub ads : List Ltv
  pub list : ads_of adv ≡ Ok ads
  pub octets : List ℕ
  pub found : first_service basic_audio_announcement ads ≡ Some octets
  pub is : BaseIs base octets

-- the first BIGInfo of an AD list is this one
pub record TellsInfo (acad : List ℕ) (info : BigInfo) : Type 0 where
  pub ads : List Ltv
  pub list : ads_of acad ≡ Ok ads
  pub octets : List ℕ
  pub found : first_of big_info_type ads ≡ Some octets
  pub is : BigIs info octets

-- the numbers that fix a group and its events
abbrev pub numbers_of : BigInfo → List ℕ
numbers_of info =
    info.iso_interval ∷ info.num_bis ∷ info.nse ∷ info.bn ∷ info.sub_interval ∷ info.pto ∷ info.bis_spacing ∷ info.irc ∷ info.max_pdu ∷
    info.sdu_interval ∷ info.max_sdu ∷ info.phy ∷ info.framing ∷ []

-- the Broadcast_ID, the BASE, the group and its cipher, the event, and its anchor
pub record Tells (train : Train) (broadcast_id : List ℕ) (base : Endpoint) (info : BigInfo) (event anchor : ℕ) : Type 0 where
  pub id_is : broadcast_id_of train.ext ≡ Some broadcast_id
  pub base_is : TellsBase train.adv base
  pub read : BigInfo
  pub info_is : TellsInfo train.acad read
  pub numbers : numbers_of read ≡ numbers_of info
  pub cipher : read.cipher ≡ info.cipher
  pub event_is : read.bis_payload_count / read.bn ≡ event
  pub anchor_is : train.time + offset_us_of read ≡ anchor

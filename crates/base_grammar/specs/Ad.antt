-- Advertising data (Core 5.2, volume 3 part C, section 11): AD structures one after the other, each laid out as an LTV
-- structure is: one octet of length, which counts type and contents, then the type, then the contents. A length octet
-- of 0 ends them early, and what follows it is ignored. Service Data of a 16-bit UUID has type 0x16 and begins with the
-- UUID (Supplement to the Core 9, part A, section 1.11).
use Rattle.std.specs.Prelude.{ℕ, ◌≡◌, List, [], ◌∷◌, ◌++◌, Option, Some, None, ◌==◌, if◌then◌else◌}
use Rattle.std.specs.Option.{option_or}
use Rattle.bcast_base.specs.Numbers.{sum_from}
use Rattle.ltv_codec.specs.declared.ltvs.Ltv.{Ltv}
use Rattle.ltv_codec.specs.Layout.{IsLtvList}
use Rattle.ltv_codec.specs.Faults.{AtCut, StandsShort}

-- nothing is left, or what is left begins with a length octet of 0
abbrev pub IsEnd : List ℕ → Type 0
IsEnd [] = Unit {0}
IsEnd (count ∷ ignored) = count ≡ 0

-- the octets are these structures, and then the end
pub record IsAdList (ads : List Ltv) (octets : List ℕ) : Type 0 where
  pub listed : List ℕ
  pub left : List ℕ
  pub list : IsLtvList ads listed
  pub ends : IsEnd left
  pub parts : octets ≡ listed ++ left

-- behind whole structures stands at this place the length octet of one that passes the end
abbrev pub IsAdShort : ℕ → List ℕ → Type 0
IsAdShort place octets = AtCut StandsShort place octets

abbrev pub service_data_type : ℕ
service_data_type = 0x16

-- the UUID of the Broadcast Audio Announcement Service
abbrev pub broadcast_audio_announcement : ℕ
broadcast_audio_announcement = 0x1852

abbrev pub behind_uuid : ℕ → List ℕ → Option (List ℕ)
behind_uuid uuid (low ∷ high ∷ content) = if sum_from 0 (low ∷ high ∷ []) == uuid then Some content else None
behind_uuid uuid _ = None

abbrev pub service_in : ℕ → Ltv → Option (List ℕ)
service_in uuid ad = if ad.kind == service_data_type then behind_uuid uuid ad.value else None

abbrev pub first_service : ℕ → List Ltv → Option (List ℕ)
first_service uuid [] = None
first_service uuid (ad ∷ ads) = option_or (service_in uuid ad) (first_service uuid ads)

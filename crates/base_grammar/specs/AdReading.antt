-- Reading advertising data (Core 5.2, volume 3 part C, section 11): an AD list is an LTV list that a length of 0 may
-- end. The Broadcast_ID is the first 3 octets of the first Service Data of the Broadcast Audio Announcement Service
-- (Basic Audio Profile 1.0, section 3.7.2.1).
use Rattle.std.specs.Prelude.{ℕ, ◌∷◌, List, [], length, take, Option, Some, None, Result, Ok, Err, nat_lt, ◌==◌, if◌then◌else◌}
use Rattle.std.specs.Result.{result_unwrap_or}
use Rattle.std.specs.Option.{option_and_then}
use Rattle.ltv_codec.specs.declared.fault.LtvBad.{LtvBad}
use Rattle.ltv_codec.specs.declared.fault.LtvBad.TheVariants.{ZeroLength, Short}
use Rattle.ltv_codec.specs.declared.ltvs.Ltv.{Ltv}
use Rattle.ltv_codec.specs.Reading.{ltvs_of, ltvs_in}
use Rattle.base_grammar.specs.Ad.{first_service, behind_uuid, service_data_type, broadcast_audio_announcement}

-- the structures, where the octets were read as an LTV list so
abbrev pub ads_read : List ℕ → Result (List Ltv) LtvBad → Result (List Ltv) ℕ
ads_read octets (Ok ltvs) = Ok ltvs
ads_read octets (Err (ZeroLength place)) = Ok (ltvs_in (take place octets))
ads_read octets (Err (Short place)) = Err place

-- what octets are read as, or the place of the length octet that passes the end
abbrev pub ads_of : List ℕ → Result (List Ltv) ℕ
ads_of octets = ads_read octets (ltvs_of octets)

-- the structures of octets that are an AD list
abbrev pub ads_in : List ℕ → List Ltv
ads_in octets = result_unwrap_or (ads_of octets) []

-- what type and contents of a structure have for this UUID
abbrev pub service_of : ℕ → List ℕ → Option (List ℕ)
service_of uuid [] = None
service_of uuid (kind ∷ contents) = if kind == service_data_type then behind_uuid uuid contents else None

abbrev pub id_in : Option (List ℕ) → Option (List ℕ)
id_in content = option_and_then (λ octets. if nat_lt (length octets) 3 then None else Some (take 3 octets)) content

abbrev pub id_from : Result (List Ltv) ℕ → Option (List ℕ)
id_from (Ok ads) = id_in (first_service broadcast_audio_announcement ads)
id_from (Err place) = None

abbrev pub broadcast_id_of : List ℕ → Option (List ℕ)
broadcast_id_of ext = id_from (ads_of ext)

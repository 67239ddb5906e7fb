-- An AD list of one structure is read as that structure.
use Rattle.announcement_train.proofs.Prelude.{ℕ, ◌≡◌, ◌+◌, ◌*◌, ◌/◌, ◌≤◌, ltb, List, [], ◌∷◌, ◌++◌, length, take, drop, Option, Some, None, Ok, refl, sym, ap, ◌∙◌, arith, length-append, cond-false, le-ltb, append-nil, length-drop, take_all, structure, Endpoint, BaseIs, IsTrain, announced, basic_audio_announcement, info_ad, service_ad}
use Rattle.std.proofs.lemmas.Nat.{div-mul-add}
use Rattle.bcast_base.specs.Encoding.{number}
use Rattle.ltv_codec.specs.declared.ltvs.Ltv.{Ltv}
use Rattle.ltv_codec.proofs.Citable.{list_read}
use Rattle.base_grammar.specs.Ad.{first_service, broadcast_audio_announcement}
use Rattle.base_grammar.specs.AdReading.{ads_read, ads_of, id_in, id_from, broadcast_id_of}
use Rattle.big_info.specs.declared.info.BigInfo.{BigInfo}
use Rattle.big_info.specs.declared.info.Cipher.{Cipher}
use Rattle.big_info.specs.Layout.{CipherIs, Encodes}
use Rattle.announcement_train.specs.declared.train.Train.{Train}
use Rattle.announcement_train.specs.Told.{Tells, TellsBase, TellsInfo}

one_listed : (ad : Ltv) → length ad.value ≤ 254 → ads_of (structure ad) ≡ Ok (ad ∷ [])
one_listed ad fits =
    ap (ads_read (structure ad)) (list_read (ad ∷ []) (structure ad) (record { fit = (fits, tt); encoded = sym (append-nil (structure ad)) }))

-- the content behind each UUID
broadcast_found : (content : List ℕ) → first_service broadcast_audio_announcement (service_ad broadcast_audio_announcement content ∷ []) ≡ Some content
unfolding number
broadcast_found content = refl

basic_found : (content : List ℕ) → first_service basic_audio_announcement (service_ad basic_audio_announcement content ∷ []) ≡ Some content
unfolding number
basic_found content = refl

pub service_length : (uuid : ℕ) (content : List ℕ) → length (number 2 uuid ++ content) ≡ 2 + length content
unfolding number
service_length uuid content = omega arith

three_found : (id : List ℕ) → length id ≡ 3 → id_in (Some id) ≡ Some id
three_found id three =
    cond-false (ltb (length id) 3) None (Some (take 3 id)) (le-ltb (length id) 3 (omega (arith, three)))
    ∙ ap (λ (octets : List ℕ). Some octets) (take_all 3 id (omega (arith, three)))

id_read : (id : List ℕ) → length id ≡ 3 → broadcast_id_of (structure (service_ad broadcast_audio_announcement id)) ≡ Some id
id_read id three =
    ap id_from (one_listed (service_ad broadcast_audio_announcement id) (omega (arith, three, service_length broadcast_audio_announcement id)))
    ∙ ap id_in (broadcast_found id) ∙ three_found id three

base_length : (base : Endpoint) (octets : List ℕ) → BaseIs base octets → length octets ≤ 252
base_length base octets is = omega (arith, ap length is.encoded, is.base.small)

base_told : (base : Endpoint) (octets : List ℕ) → BaseIs base octets → TellsBase (structure (service_ad basic_audio_announcement octets)) base
base_told base octets is = record {
  ads = service_ad basic_audio_announcement octets ∷ [];
  list = one_listed (service_ad basic_audio_announcement octets) (omega (arith, base_length base octets is, service_length basic_audio_announcement octets));
  octets = octets;
  found = basic_found octets;
  is = is;
}

cipher_length : (cipher : Option Cipher) (octets : List ℕ) → CipherIs cipher octets → length octets ≤ 24
cipher_length None octets is = omega (arith, ap length is)
cipher_length (Some cipher) octets is = omega (arith, ap length is.2, length-append cipher.giv cipher.gskd, is.0, is.1)

info_length : (info : BigInfo) (rfu : ℕ) (octets : List ℕ) → Encodes info rfu octets → length octets ≤ 57
info_length info rfu octets is = omega (arith, cipher_length info.cipher (drop 33 octets) is.cipher, length-drop 33 octets)

info_told : (info : BigInfo) (octets : List ℕ) → Encodes info 0 octets → TellsInfo (structure (info_ad octets)) info
info_told info octets is = record {
  ads = info_ad octets ∷ [];
  list = one_listed (info_ad octets) (omega (arith, info_length info 0 octets is));
  octets = octets;
  found = refl;
  is = (0, is);
}

counted_from : (event bn : ℕ) → 1 ≤ bn → event * bn / bn ≡ event
counted_from event bn some =
    let none : event * bn ≡ event * bn + 0 = omega arith in
    ap (λ n. n / bn) none ∙ div-mul-add event bn 0 (omega (arith, some))

pub told : (train : Train) (id : List ℕ) (base : Endpoint) (info : BigInfo) (event anchor : ℕ) → 1 ≤ info.bn → IsTrain id base info event anchor train
    → Tells train id base info event anchor
told train id base info event anchor some is = record {
  id_is = ap broadcast_id_of is.ext ∙ id_read id is.three;
  base_is = rw is.adv (base_told base is.base_octets is.base_is);
  read = announced info event;
  info_is = rw is.acad (info_told (announced info event) is.info_octets is.info_is);
  numbers = refl;
  cipher = refl;
  event_is = counted_from event info.bn some;
  anchor_is = is.time;
}

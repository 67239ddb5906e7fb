-- The octets of a train are those of its parts, and no others.
use Rattle.delegator_history.proofs.Prelude.{◌≡◌, ◌<◌, ◌+◌, ◌-◌, ◌*◌, ◌^◌, ℕ, Bool, cond, ltb, List, ◌∷◌, ◌++◌, length, take, drop, Option, Some, None, refl, sym, ap, ◌∙◌, subst, arith, drop_at, length-append, length-take, take-append-drop, none-some, same_Some, IsOctets-prefix, IsOctets-rest, number-length, number_again, number_once, Endpoint, encoding, BigInfo, Cipher, CipherIs, Encodes, number_of, Train}
use Rattle.bcast_base.specs.Numbers.{sum_from}
use Rattle.bcast_base.specs.Encoding.{IsOctets, number}
use Rattle.ltv_codec.specs.Layout.{structure}
use Rattle.base_grammar.specs.Ad.{broadcast_audio_announcement}
use Rattle.big_info.specs.Widths.{FitsWidths}
use Rattle.announcement_train.specs.Layout.{IsTrain, announced, basic_audio_announcement, info_ad, lead, service_ad}
use Rattle.delegator_history.specs.Octets.{MayAnnounce, cipher_octets, info_octets, train_of}

-- ---- a BIGInfo

cipher_only : (cipher : Option Cipher) (octets : List ℕ) → CipherIs cipher octets → octets ≡ cipher_octets cipher
cipher_only cipher octets is = grind arith

info_only : (info : BigInfo) (octets : List ℕ) → IsOctets octets → Encodes info 0 octets → octets ≡ info_octets info
info_only info octets fits is =
    let parts : octets ≡ take 33 octets ++ drop 33 octets = sym (take-append-drop 33 octets) in
    let prefix : IsOctets (take 33 octets) = IsOctets-prefix (take 33 octets) (drop 33 octets) (subst IsOctets parts fits) in
    let long : length (take 33 octets) ≡ 33 = omega (arith, length-take 33 octets, is.whole) in
    parts ∙ ap (λ (os : List ℕ). os ++ drop 33 octets) (number_once 33 (number_of info 0) (take 33 octets) prefix long is.fields)
    ∙ ap (λ (os : List ℕ). number 33 (number_of info 0) ++ os) (cipher_only info.cipher (drop 33 octets) is.cipher)

number_small : (info : BigInfo) → FitsWidths info → number_of info 0 < 2 ^ (8 * 33)
number_small info fits = grind arith

first_is : (short : Bool) (one other : ℕ × List ℕ) → cond short None (Some one) ≡ Some other → one.0 ≡ other.0
first_is short one other is = grind (arith, none-some, same_Some)

info_encoded : (info : BigInfo) → FitsWidths info → CipherIs info.cipher (cipher_octets info.cipher) → Encodes info 0 (info_octets info)
info_encoded info fits cipher =
    let all : ℕ = number_of info 0 in
    let behind : List ℕ = cipher_octets info.cipher in
    let octets : List ℕ = number 33 all ++ behind in
    let one : ℕ × List ℕ = (sum_from 0 (take 33 octets), drop 33 octets) in
    let other : ℕ × List ℕ = (all, behind) in
    let long : length (number 33 all) ≡ 33 = number-length 33 all in
    record {
      widths = fits;
      rfu_width = omega arith;
      whole = omega (arith, long, length-append (number 33 all) behind);
      fields = sym (first_is (ltb (length octets) 33) one other (number_again 33 all behind (number_small info fits)));
      cipher = subst (CipherIs info.cipher) (sym (drop_at (number 33 all) behind 33 long)) cipher;
    }

-- ---- the BIGInfo of an event

announced_fits : (info : BigInfo) (event : ℕ) → FitsWidths info → event * info.bn < 2 ^ 39 → FitsWidths (announced info event)
announced_fits info event fits count = grind arith

-- ---- the train

pub train_is : (broadcast_id : List ℕ) (base : Endpoint) (info : BigInfo) (event anchor : ℕ) → MayAnnounce broadcast_id base info event anchor
    → IsTrain broadcast_id base info event anchor (train_of broadcast_id base info event anchor)
train_is broadcast_id base info event anchor may = record {
  three = may.three;
  time = omega (arith, may.late);
  ext = refl;
  base_octets = encoding base;
  base_is = record { base = may.base_is; encoded = refl };
  adv = refl;
  info_octets = info_octets (announced info event);
  info_is = info_encoded (announced info event) (announced_fits info event may.widths may.count) may.cipher;
  acad = refl;
}

abbrev service : List ℕ → List ℕ
service broadcast_id = structure (service_ad broadcast_audio_announcement broadcast_id)

abbrev base_list : List ℕ → List ℕ
base_list octets = structure (service_ad basic_audio_announcement octets)

abbrev info_list : List ℕ → List ℕ
info_list octets = structure (info_ad octets)

abbrev made : (time : ℕ) → (ext adv acad : List ℕ) → Train
made time ext adv acad = record { time = time; ext = ext; adv = adv; acad = acad }

pub train_only : (broadcast_id : List ℕ) (base : Endpoint) (info : BigInfo) (event anchor : ℕ) (train : Train) → IsTrain broadcast_id base info event anchor train
    → IsOctets train.acad → train ≡ train_of broadcast_id base info event anchor
train_only broadcast_id base info event anchor train is fits =
    let time : train.time ≡ anchor - lead = omega (arith, is.time) in
    let acad : List ℕ = is.info_octets in
    let listed : IsOctets ((1 + length acad) ∷ 0x2c ∷ acad) = subst IsOctets is.acad fits in
    let own : IsOctets acad = IsOctets-rest 0x2c acad (IsOctets-rest (1 + length acad) (0x2c ∷ acad) listed) in
    let info_is : acad ≡ info_octets (announced info event) = info_only (announced info event) acad own is.info_is in
    ap (λ n. made n train.ext train.adv train.acad) time ∙ ap (λ os. made (anchor - lead) os train.adv train.acad) is.ext
    ∙ ap (λ os. made (anchor - lead) (service broadcast_id) os train.acad) (is.adv ∙ ap base_list is.base_is.encoded)
    ∙ ap (λ os. made (anchor - lead) (service broadcast_id) (base_list (encoding base)) os) (is.acad ∙ ap info_list info_is)

-- Parts that lie one behind the other, and how long those of a train are.
use Rattle.std.proofs.Common.{◌≡◌, ℕ, ◌+◌, ◌≤◌, List, [], ◌∷◌, ◌++◌, length, take, drop, refl, ap, ◌∙◌, subst, zero, suc, arith, length-append}
use Rattle.std.proofs.lemmas.List.{length-drop}
use Rattle.bcast_base.specs.Encoding.{number}
use Rattle.big_info.specs.declared.info.BigInfo.{BigInfo}
use Rattle.big_info.specs.declared.info.Cipher.{Cipher}
use Rattle.std.specs.Prelude.{Option, Some, None}
use Rattle.big_info.specs.Layout.{CipherIs, Encodes}
use Rattle.base_grammar.specs.Layout.{Endpoint, BaseIs}
use Rattle.announcement_train.specs.Layout.{IsTrain}
use Rattle.announcement_train.specs.declared.train.Train.{Train}
use Rattle.source_c.specs.Announced.{IsShort, train_in}

pub record AreParts (x y room : List ℕ) : Type 0 where
  pub first : take (length x) room ≡ x
  pub second : take (length y) (drop (length x) room) ≡ y

pub two_parts : (x y room : List ℕ) (n : ℕ) → n ≡ length x + length y → take n room ≡ x ++ y → AreParts x y room
two_parts [] y room n long is = record { first = refl; second = subst (λ m. take m room ≡ y) (omega (arith, long)) is }
two_parts (octet ∷ rest) y room zero long is = absurd cc
two_parts (octet ∷ rest) y [] (suc n) long is = absurd cc
two_parts (octet ∷ rest) y (head ∷ room) (suc n) long is =
    let same : head ≡ octet = cc in
    let others = two_parts rest y room n (omega (arith, long)) cc in
    record { first = ap (λ m. m ∷ take (length rest) room) same ∙ ap (λ ms. octet ∷ ms) others.first; second = others.second }

-- the three parts of a train, at the front of a room
pub three_parts : (train : Train) (room : List ℕ) → (n : ℕ) → n ≡ length train.ext + length train.adv + length train.acad
    → take n room ≡ (train.ext ++ train.adv) ++ train.acad
    → train_in (record { ext = length train.ext; adv = length train.adv; acad = length train.acad; time = train.time }) room ≡ train
three_parts train room n long is =
    let both : length (train.ext ++ train.adv) ≡ length train.ext + length train.adv = length-append train.ext train.adv in
    let lower = two_parts (train.ext ++ train.adv) train.acad room n (omega (arith, long, both)) is in
    let upper = two_parts train.ext train.adv room (length (train.ext ++ train.adv)) both lower.first in
    let third : take (length train.acad) (drop (length train.ext + length train.adv) room) ≡ train.acad =
    subst (λ m. take (length train.acad) (drop m room) ≡ train.acad) both lower.second in
    ap (λ (ext : List ℕ). record {
      time = train.time;
      ext = ext;
      adv = take (length train.adv) (drop (length train.ext) room);
      acad = take (length train.acad) (drop (length train.ext + length train.adv) room);
    }) upper.first
    ∙ ap (λ (adv : List ℕ). record {
      time = train.time;
      ext = train.ext;
      adv = adv;
      acad = take (length train.acad) (drop (length train.ext + length train.adv) room);
    }) upper.second
    ∙ ap (λ (acad : List ℕ). record { time = train.time; ext = train.ext; adv = train.adv; acad = acad }) third

-- the octets of a number of two octets before others
behind_uuid : (uuid : ℕ) (content : List ℕ) → length (number 2 uuid ++ content) ≡ 2 + length content
unfolding number
behind_uuid uuid content = omega arith

base_length : (base : Endpoint) (octets : List ℕ) → BaseIs base octets → length octets ≤ 252
base_length base octets is = omega (arith, ap length is.encoded, is.base.small)

cipher_length : (cipher : Option Cipher) (octets : List ℕ) → CipherIs cipher octets → length octets ≤ 24
cipher_length None octets is = omega (arith, ap length is)
cipher_length (Some cipher) octets is = omega (arith, ap length is.2, length-append cipher.giv cipher.gskd, is.0, is.1)

info_length : (info : BigInfo) (octets : List ℕ) → Encodes info 0 octets → length octets ≤ 57
info_length info octets is = omega (arith, cipher_length info.cipher (drop 33 octets) is.cipher, length-drop 33 octets)

pub train_is_short : (id : List ℕ) (base : Endpoint) (info : BigInfo) (event anchor : ℕ) (train : Train) → IsTrain id base info event anchor train → IsShort train
train_is_short id base info event anchor train is =
    omega (
      arith,
      ap length is.ext,
      ap length is.adv,
      ap length is.acad,
      is.three,
      behind_uuid 0x1852 id,
      behind_uuid 0x1851 is.base_octets,
      base_length base is.base_octets is.base_is,
      info_length _ is.info_octets is.info_is,
    )

-- A number is the sum of its fields in one way alone.
use Rattle.big_info.proofs.Prelude.{◌≡◌, ◌<◌, ℕ, ◌+◌, ◌*◌, ◌%◌, ◌^◌, List, [], ◌∷◌, drop, get_or, sym, ◌∙◌, ap, arith, Option, mod-mul-add, div-mul-add, BigInfo, Cipher, Encodes, number_of, FitsWidths}
use Rattle.big_info.proofs.Ciphers.{one_cipher}

-- the lowest digit, and what is above it
pub low_digit : (m a x b y : ℕ) → a < m → b < m → a + m * x ≡ b + m * y → a ≡ b
low_digit m a x b y p q e =
    let turned : x * m + a ≡ y * m + b = omega (arith, e) in
    sym (mod-mul-add x m a p) ∙ ap (λ (n : ℕ). n % m) turned ∙ mod-mul-add y m b q

pub above_digit : (m a x b y : ℕ) → a < m → b < m → a + m * x ≡ b + m * y → x ≡ y
above_digit m a x b y p q e = grind (arith, div-mul-add)

-- fields of these bits, one above the other
abbrev pub stacked : List ℕ → List ℕ → ℕ
stacked [] values = 0
stacked (bits ∷ others) [] = 0
stacked (bits ∷ others) (value ∷ values) = value + 2 ^ bits * stacked others values

abbrev pub AllFit : List ℕ → List ℕ → Type 0
AllFit [] [] = Unit {0}
AllFit [] (value ∷ values) = ⊥
AllFit (bits ∷ others) [] = ⊥
AllFit (bits ∷ others) (value ∷ values) = (value < 2 ^ bits) × AllFit others values

-- the table of the BIGInfo, RFU among it
abbrev pub widths : List ℕ
widths = 14 ∷ 1 ∷ 12 ∷ 5 ∷ 5 ∷ 3 ∷ 20 ∷ 4 ∷ 20 ∷ 4 ∷ 8 ∷ 8 ∷ 32 ∷ 20 ∷ 12 ∷ 16 ∷ 37 ∷ 3 ∷ 39 ∷ 1 ∷ []

abbrev pub values : BigInfo → ℕ → List ℕ
values info rfu =
    info.big_offset ∷ info.big_offset_units ∷ info.iso_interval ∷ info.num_bis ∷ info.nse ∷ info.bn ∷ info.sub_interval ∷ info.pto ∷
    info.bis_spacing ∷ info.irc ∷ info.max_pdu ∷ rfu ∷ info.seed_access_address ∷ info.sdu_interval ∷ info.max_sdu ∷
    info.base_crc_init ∷ info.chm ∷ info.phy ∷ info.bis_payload_count ∷ info.framing ∷ []

abbrev pub rebuilt : List ℕ → Option Cipher → BigInfo
rebuilt xs cipher = record {
  big_offset = get_or xs 0 0;
  big_offset_units = get_or xs 1 0;
  iso_interval = get_or xs 2 0;
  num_bis = get_or xs 3 0;
  nse = get_or xs 4 0;
  bn = get_or xs 5 0;
  sub_interval = get_or xs 6 0;
  pto = get_or xs 7 0;
  bis_spacing = get_or xs 8 0;
  irc = get_or xs 9 0;
  max_pdu = get_or xs 10 0;
  seed_access_address = get_or xs 12 0;
  sdu_interval = get_or xs 13 0;
  max_sdu = get_or xs 14 0;
  base_crc_init = get_or xs 15 0;
  chm = get_or xs 16 0;
  phy = get_or xs 17 0;
  bis_payload_count = get_or xs 18 0;
  framing = get_or xs 19 0;
  cipher = cipher;
}

pub number-stacked : (info : BigInfo) (rfu : ℕ) → number_of info rfu ≡ stacked widths (values info rfu)
number-stacked info rfu = omega arith

pub all_fit : (info : BigInfo) (rfu : ℕ) → FitsWidths info → rfu < 2 ^ 8 → AllFit widths (values info rfu)
all_fit info rfu h k = grind arith

-- octets are of one info alone
pub one_info : (one other : BigInfo) (r s : ℕ) (octets : List ℕ) → Encodes one r octets → Encodes other s octets → one ≡ other
one_info one other r s octets h k = grind (arith, number-stacked, low_digit, above_digit, all_fit, one_cipher, drop)

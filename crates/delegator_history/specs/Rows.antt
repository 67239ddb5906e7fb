-- A train (Basic Audio Profile 1.0, section 3.7.2; Core 5.2, volume 6 part B, section 4.4.6.11), worked by hand.
use Rattle.std.specs.Prelude.{ℕ, ◌≡◌, List, [], ◌∷◌, None}
use Rattle.base_grammar.specs.Layout.{Endpoint}
use Rattle.big_info.specs.declared.info.BigInfo.{BigInfo}
use Rattle.announcement_train.specs.declared.train.Train.{Train}
use Rattle.delegator_history.specs.Octets.{train_of}

-- one stream of 4 octets each 10 ms, on LE 2M
abbrev pub a_group : BigInfo
a_group = record {
  big_offset = 0;
  big_offset_units = 0;
  iso_interval = 8;
  num_bis = 1;
  nse = 1;
  bn = 1;
  sub_interval = 0;
  pto = 0;
  bis_spacing = 0;
  irc = 1;
  max_pdu = 4;
  seed_access_address = 0;
  sdu_interval = 10000;
  max_sdu = 4;
  base_crc_init = 0;
  chm = 0;
  phy = 1;
  bis_payload_count = 0;
  framing = 0;
  cipher = None;
}

-- of a vendor's codec, rendered after 40 ms
abbrev pub a_base : Endpoint
a_base = record {
  delay = 40000;
  subgroups = record {
    codec = 0xff ∷ 0x01 ∷ 0x00 ∷ 0x02 ∷ 0x00 ∷ [];
    config = [];
    metadata = [];
    entries = record { bis = 1; config = [] } ∷ [];
  } ∷ [];
}

abbrev pub an_id : List ℕ
an_id = 0x56 ∷ 0x34 ∷ 0x12 ∷ []

-- event 0, with its anchor at 20 ms
abbrev pub a_train : Train
a_train = train_of an_id a_base a_group 0 20000

pub record IsWorked (train : Train) : Type 0 where
  pub time : train.time ≡ 17000
  pub ext : train.ext ≡ 0x06 ∷ 0x16 ∷ 0x52 ∷ 0x18 ∷ an_id
  pub adv : train.adv
      ≡ 0x11 ∷ 0x16 ∷ 0x51 ∷ 0x18 ∷ 0x40 ∷ 0x9c ∷ 0x00 ∷ 0x01 ∷ 0x01 ∷ 0xff ∷ 0x01 ∷ 0x00 ∷ 0x02 ∷ 0x00 ∷ 0x00 ∷ 0x00 ∷ 0x01 ∷ 0x00 ∷ []
  pub acad : train.acad
      ≡ 0x22 ∷ 0x2c ∷ 0x64 ∷ 0x00 ∷ 0x04 ∷ 0x08 ∷ 0x21 ∷ 0x00 ∷ 0x00 ∷ 0x00 ∷ 0x00 ∷ 0x00 ∷ 0x10 ∷ 0x04 ∷ 0x00 ∷ 0x00 ∷ 0x00 ∷ 0x00 ∷ 0x00 ∷ 0x10 ∷ 0x27
      ∷ 0x40 ∷ 0x00 ∷ 0x00 ∷ 0x00 ∷ 0xff ∷ 0xff ∷ 0xff ∷ 0xff ∷ 0x3f ∷ 0x00 ∷ 0x00 ∷ 0x00 ∷ 0x00 ∷ 0x00 ∷ []

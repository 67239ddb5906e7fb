-- Scenarios with trains, worked by hand: their steps, the newest first, and what they print of their sink. The lines are
-- this project's own.
use Rattle.std.specs.Prelude.{ℕ, ◌≡◌, List, [], ◌∷◌, ◌++◌, drop, reverse, replicate, Some, None, codes, decimal}
use Rattle.announcement_train.specs.declared.train.Train.{Train as Announced}
use Rattle.delegator_history.specs.Octets.{train_of}
use Rattle.delegator_history.specs.Rows.{a_group, a_train, an_id}
use Rattle.base_grammar.specs.Layout.{Endpoint, lc3}
use Rattle.big_info.specs.declared.info.Cipher.{Cipher}
use Rattle.bass_operations.specs.declared.operation.AddSource.{AddSource}
use Rattle.bass_operations.specs.declared.operation.ModifySource.{ModifySource}
use Rattle.scenario_words.specs.Digits.{digits}
use Rattle.scenario_text.specs.declared.step.Step.{Step}
use Rattle.scenario_text.specs.declared.step.Step.TheVariants as steps
use Rattle.transcript_text.specs.Lines.{line_of}
use Rattle.sink_history.specs.History.{World}
use Rattle.sink_history.specs.Output.{Lines, printed}
use Rattle.sink_history.specs.Rows.{an_add, its_value}

-- one source, of a public address and SID 3, that announces this train
abbrev pub world_of : Announced → World
world_of train = record {
  source = λ earlier. record {
    number = 0;
    address_type = 0;
    sid = 3;
    announced = train;
    big_sync = λ which. record { info = a_group; which = which; first = 0; anchor = 20000; delay = 40000 };
  };
}

abbrev pub a_world : World
a_world = world_of a_train

-- the value of the slot as the sink takes stream 1
abbrev pub on_its_group : List ℕ
on_its_group =
    0x00 ∷ 0x00 ∷ 0x66 ∷ 0x55 ∷ 0x44 ∷ 0x33 ∷ 0x22 ∷ 0x11 ∷ 0x03 ∷ 0x56 ∷ 0x34 ∷ 0x12 ∷ 0x02 ∷ 0x00 ∷ 0x01 ∷ 0x01 ∷ 0x00 ∷ 0x00 ∷ 0x00 ∷ 0x00 ∷ []

-- a sink that is synchronized to its BIG by what the source announces, and loses the train
abbrev pub train_and_loss : List Step
train_and_loss = reverse (
    steps.Scenario 1 ∷ steps.Sink 0 1 1 None ∷ steps.Pac 0 (0xff ∷ 0x01 ∷ 0x00 ∷ 0x02 ∷ 0x00 ∷ []) [] [] ∷ steps.Write 0 an_add ∷ steps.Serve 0
    ∷ steps.Announce 0 ∷ steps.Tell 0 ∷ steps.Tell 0 ∷ steps.Lose 0 ∷ steps.Tell 0 ∷ [])

abbrev pub train_and_loss_lines : Lines
train_and_loss_lines =
    line_of (codes "reply") (decimal 0 ∷ codes "ok" ∷ [])
    ∷ line_of (codes "train") (decimal 0 ∷ decimal 17000 ∷ digits a_train.ext ∷ digits a_train.adv ∷ digits a_train.acad ∷ [])
    ∷ line_of (codes "sink") (decimal 0 ∷ codes "OnGroup" ∷ decimal 1 ∷ [])
    ∷ line_of (codes "notice") (decimal 0 ∷ decimal 0 ∷ digits its_value ∷ [])
    ∷ line_of (codes "notice") (decimal 0 ∷ decimal 0 ∷ digits on_its_group ∷ [])
    ∷ line_of (codes "sink") (decimal 0 ∷ codes "Idle" ∷ [])
    ∷ line_of (codes "notice") (decimal 0 ∷ decimal 0 ∷ digits its_value ∷ []) ∷ []

-- ---- a whole life, but for what is heard on the air: a source is added and followed, it can't be removed, its group ends, and
-- it is given up and removed

abbrev pub the_add : AddSource
the_add = record {
  address_type = 0;
  address = 0x66 ∷ 0x55 ∷ 0x44 ∷ 0x33 ∷ 0x22 ∷ 0x11 ∷ [];
  sid = 3;
  broadcast_id = 0x56 ∷ 0x34 ∷ 0x12 ∷ [];
  pa_sync = 2;
  pa_interval = 65535;
  wishes = record { bis_sync = 0xffffffff; metadata = [] } ∷ [];
}

abbrev pub the_end : ModifySource
the_end = record { source_id = 0; pa_sync = 0; pa_interval = 65535; wishes = [] }

-- the values of the slot on the train alone, and as nothing is wanted of the source
abbrev pub on_its_train : List ℕ
on_its_train =
    0x00 ∷ 0x00 ∷ 0x66 ∷ 0x55 ∷ 0x44 ∷ 0x33 ∷ 0x22 ∷ 0x11 ∷ 0x03 ∷ 0x56 ∷ 0x34 ∷ 0x12 ∷ 0x02 ∷ 0x00 ∷ 0x01 ∷ 0x00 ∷ 0x00 ∷ 0x00 ∷ 0x00 ∷ 0x00 ∷ []

abbrev pub not_wanted : List ℕ
not_wanted = 0x00 ∷ 0x00 ∷ 0x66 ∷ 0x55 ∷ 0x44 ∷ 0x33 ∷ 0x22 ∷ 0x11 ∷ 0x03 ∷ 0x56 ∷ 0x34 ∷ 0x12 ∷ 0x00 ∷ 0x00 ∷ 0x00 ∷ []

abbrev pub whole_life : List Step
whole_life = reverse (
    steps.Scenario 1 ∷ steps.Sink 0 1 1 None ∷ steps.Pac 0 (0xff ∷ 0x01 ∷ 0x00 ∷ 0x02 ∷ 0x00 ∷ []) [] [] ∷ steps.Add 0 the_add ∷ steps.Serve 0
    ∷ steps.Announce 0 ∷ steps.Remove 0 0 ∷ steps.Serve 0 ∷ steps.Control 0 (0x03 ∷ 0x04 ∷ 0x01 ∷ 0x13 ∷ 0x01 ∷ 0x00 ∷ []) ∷ steps.Drain 0 ∷ steps.Show 0
    ∷ steps.Modify 0 the_end ∷ steps.Remove 0 0 ∷ steps.Drain 0 ∷ steps.Show 0 ∷ [])

abbrev pub whole_life_lines : Lines
whole_life_lines =
    line_of (codes "reply") (decimal 0 ∷ codes "ok" ∷ [])
    ∷ line_of (codes "train") (decimal 0 ∷ decimal 17000 ∷ digits a_train.ext ∷ digits a_train.adv ∷ digits a_train.acad ∷ [])
    ∷ line_of (codes "sink") (decimal 0 ∷ codes "OnGroup" ∷ decimal 1 ∷ [])
    ∷ line_of (codes "reply") (decimal 0 ∷ digits (0xfc ∷ []) ∷ codes "StillSynced" ∷ [])
    ∷ line_of (codes "sink") (decimal 0 ∷ codes "Left" ∷ [])
    ∷ line_of (codes "notice") (decimal 0 ∷ decimal 0 ∷ digits its_value ∷ [])
    ∷ line_of (codes "notice") (decimal 0 ∷ decimal 0 ∷ digits on_its_group ∷ [])
    ∷ line_of (codes "notice") (decimal 0 ∷ decimal 0 ∷ digits on_its_train ∷ [])
    ∷ line_of (codes "state") (decimal 0 ∷ decimal 0 ∷ digits on_its_train ∷ [])
    ∷ line_of (codes "view") (decimal 0 ∷ decimal 0 ∷ digits on_its_train ∷ [])
    ∷ line_of (codes "reply") (decimal 0 ∷ codes "ok" ∷ [])
    ∷ line_of (codes "reply") (decimal 0 ∷ codes "ok" ∷ [])
    ∷ line_of (codes "notice") (decimal 0 ∷ decimal 0 ∷ digits not_wanted ∷ [])
    ∷ line_of (codes "notice") (decimal 0 ∷ decimal 0 ∷ digits [] ∷ [])
    ∷ line_of (codes "state") (decimal 0 ∷ decimal 0 ∷ digits [] ∷ [])
    ∷ line_of (codes "view") (decimal 0 ∷ decimal 0 ∷ digits [] ∷ []) ∷ []

-- ---- an encrypted group, which a sink doesn't join, and for which it takes no code

-- a BASE of LC3 alone
abbrev pub plain_adv : List ℕ
plain_adv =
    0x11 ∷ 0x16 ∷ 0x51 ∷ 0x18 ∷ 0x40 ∷ 0x9c ∷ 0x00 ∷ 0x01 ∷ 0x01 ∷ 0x06 ∷ 0x00 ∷ 0x00 ∷ 0x00 ∷ 0x00 ∷ 0x00 ∷ 0x00 ∷ 0x01 ∷ 0x00 ∷ []

abbrev pub plain_base : Endpoint
plain_base = record { delay = 40000; subgroups = record { codec = lc3; config = []; metadata = []; entries = record { bis = 1; config = [] } ∷ [] } ∷ [] }

abbrev pub a_cipher : Cipher
a_cipher = record { giv = 0x01 ∷ 0x02 ∷ 0x03 ∷ 0x04 ∷ 0x05 ∷ 0x06 ∷ 0x07 ∷ 0x08 ∷ []; gskd = replicate 16 0x11 }

abbrev pub coded_train : Announced
coded_train = train_of an_id plain_base (record a_group { cipher = Some a_cipher }) 0 20000

abbrev pub coded_world : World
coded_world = world_of coded_train

abbrev pub on_its_coded_train : List ℕ
on_its_coded_train =
    0x00 ∷ 0x00 ∷ 0x66 ∷ 0x55 ∷ 0x44 ∷ 0x33 ∷ 0x22 ∷ 0x11 ∷ 0x03 ∷ 0x56 ∷ 0x34 ∷ 0x12 ∷ 0x02 ∷ 0x01 ∷ 0x01 ∷ 0x00 ∷ 0x00 ∷ 0x00 ∷ 0x00 ∷ 0x00 ∷ []

abbrev pub encrypted : List Step
encrypted = reverse (
    steps.Scenario 1 ∷ steps.Sink 0 1 1 None ∷ steps.Add 0 the_add ∷ steps.Serve 0 ∷ steps.Announce 0 ∷ steps.Code 0 0 (replicate 16 0) ∷ steps.Serve 0
    ∷ steps.Drain 0 ∷ steps.Show 0 ∷ [])

abbrev pub encrypted_lines : Lines
encrypted_lines =
    line_of (codes "reply") (decimal 0 ∷ codes "ok" ∷ [])
    ∷ line_of (codes "train") (decimal 0 ∷ decimal 17000 ∷ digits a_train.ext ∷ digits plain_adv
    ∷ digits (0x3a ∷ 0x2c ∷ drop 2 a_train.acad ++ a_cipher.giv ++ a_cipher.gskd) ∷ [])
    ∷ line_of (codes "sink") (decimal 0 ∷ codes "BadGroup" ∷ decimal 14 ∷ [])
    ∷ line_of (codes "reply") (decimal 0 ∷ digits (0x80 ∷ []) ∷ codes "NoDecrypt" ∷ [])
    ∷ line_of (codes "notice") (decimal 0 ∷ decimal 0 ∷ digits its_value ∷ [])
    ∷ line_of (codes "notice") (decimal 0 ∷ decimal 0 ∷ digits on_its_coded_train ∷ [])
    ∷ line_of (codes "state") (decimal 0 ∷ decimal 0 ∷ digits on_its_coded_train ∷ [])
    ∷ line_of (codes "view") (decimal 0 ∷ decimal 0 ∷ digits on_its_coded_train ∷ []) ∷ []

-- ---- a sink without capabilities that wants the source, and a train that is given by its octets

abbrev pub wanting : List Step
wanting = reverse (steps.Scenario 1 ∷ steps.Sink 0 1 1 None ∷ steps.Write 0 an_add ∷ steps.Serve 0 ∷ [])

abbrev pub after_train : (ext adv acad : List ℕ) → Lines
after_train ext adv acad = printed a_world wanting (steps.Train 0 17000 ext adv acad)

abbrev pub answered_with : List (List ℕ) → Lines
answered_with words = line_of (codes "sink") (decimal 0 ∷ words) ∷ []

-- a Broadcast_ID that no slot has
abbrev pub other_ext : List ℕ
other_ext = 0x06 ∷ 0x16 ∷ 0x52 ∷ 0x18 ∷ 0x00 ∷ 0x00 ∷ 0x00 ∷ []

pub record ForgedTrains : Type 0 where
  pub nothing : after_train [] [] [] ≡ answered_with (codes "NoBroadcastId" ∷ [])
  pub other : after_train other_ext [] [] ≡ answered_with (codes "NotWanted" ∷ [])
  pub no_base : after_train a_train.ext [] [] ≡ answered_with (codes "NoBase" ∷ [])
  pub cut_base : after_train a_train.ext (0x04 ∷ 0x16 ∷ 0x51 ∷ 0x18 ∷ 0x40 ∷ []) [] ≡ answered_with (codes "BadBase" ∷ [])
  pub no_info : after_train a_train.ext plain_adv [] ≡ answered_with (codes "NoBigInfo" ∷ [])
  pub cut_info : after_train a_train.ext plain_adv (0x02 ∷ 0x2c ∷ 0x00 ∷ []) ≡ answered_with (codes "BadBigInfo" ∷ [])
  pub no_group : after_train a_train.ext plain_adv (0x22 ∷ 0x2c ∷ replicate 33 0) ≡ answered_with (codes "BadGroup" ∷ decimal 1 ∷ [])
  pub none_taken : after_train a_train.ext plain_adv a_train.acad ≡ answered_with (codes "NoneTaken" ∷ [])

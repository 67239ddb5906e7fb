-- Where a sink is that a train of its source synchronized to the BIG (Basic Audio Profile 1.0, sections 3.7.2 and 6.5; Core 5.2,
-- volume 6 part B, section 4.4.6.11).
use Rattle.std.specs.Prelude.{ℕ, ◌≡◌, ◌≤◌, ◌<◌, ◌^◌, None}
use Rattle.base_grammar.specs.Layout.{Endpoint}
use Rattle.big_info.specs.declared.info.BigInfo.{BigInfo}
use Rattle.announcement_train.specs.declared.train.Train.{Train as Announced}
use Rattle.delegator_history.specs.Trains.{Train}
use Rattle.sync_reference.specs.BigSync.{BigSync}

abbrev pub heard_as : ℕ → ℕ → Announced → Train
heard_as address_type sid train =
    record { address_type = address_type; sid = sid; ext = train.ext; adv = train.adv; acad = train.acad; now = train.time }

-- what a BIGInfo tells of the group and its schedule: all but which event is next and when, and how the PDUs are sent by radio
abbrev pub numbers_alone : BigInfo → BigInfo
numbers_alone info = record info {
  big_offset = 0;
  big_offset_units = 0;
  seed_access_address = 0;
  base_crc_init = 0;
  chm = 0;
  bis_payload_count = 0;
}

-- the sink is on the group of this info, from the event with this anchor in µs on, with the presentation delay of the BASE;
-- the group is not encrypted, and the streams that are taken are some of its own: bit n stands for the index n + 1
pub record IsOnGroup (base : Endpoint) (info : BigInfo) (event anchor : ℕ) (big_sync : BigSync) : Type 0 where
  pub group_is : numbers_alone big_sync.info ≡ numbers_alone info
  pub plain : info.cipher ≡ None
  pub first_is : big_sync.first ≡ event
  pub anchor_is : big_sync.anchor ≡ anchor
  pub delay_is : big_sync.delay ≡ base.delay
  pub some : 1 ≤ big_sync.which
  pub within : big_sync.which < 2 ^ info.num_bis

-- How C is told of a train.
use Rattle.std.specs.Prelude.{ℕ, ◌+◌, ◌≤◌, List, length, take, drop, Option, Some, None}
use Rattle.announcement_train.specs.declared.train.Train.{Train}
use Rattle.big_info.specs.declared.info.BigInfo.{BigInfo}
use Rattle.c_values.specs.Statuses as statuses
use Rattle.source_machine.specs.Ciphers.{with_cipher}
use Rattle.source_machine.specs.declared.fault.AnnounceFault.{AnnounceFault}
use Rattle.source_c.specs.Sources.{Source}
use Rattle.source_c.specs.declared.announce.VmTrain.{VmTrain}

-- the group that is announced: that of the source with its cipher
abbrev pub group_of : Source → BigInfo
group_of source = with_cipher source.setup.info source.cipher

-- the train as C sees it: its three parts one behind the other at the front of the room
abbrev pub train_in : VmTrain → List ℕ → Train
train_in train room = record {
  time = train.time;
  ext = take train.ext room;
  adv = take train.adv (drop train.ext room);
  acad = take train.acad (drop (train.ext + train.adv) room);
}

-- the parts together have at most 512 octets
abbrev pub IsShort : Train → Type 0
IsShort train = length train.ext + length train.adv + length train.acad ≤ 512

-- the status that tells why the next event isn't announced
abbrev pub announced_c : Option AnnounceFault → ℕ
announced_c None = statuses.ok
announced_c (Some fault) = statuses.counter_ends

-- What is true of every receiver: its places and its buffer have room, and its open event is within bounds.
use Rattle.std.specs.Prelude.{ℕ, ◌≡◌, ◌≤◌, ◌^◌, length, vec_len}
use Rattle.isoal_base.specs.Stays.{window_of}
use Rattle.isoal_framed.specs.declared.store.Store.{Store}
use Rattle.isoal_framed.specs.declared.stream.Stream.{Stream}

pub record IsReceiver (stream : Stream) (event : ℕ) (store : Store) : Type 0 where
  pub room : length store.places.ring.items ≡ window_of stream.group.info
  pub octets : store.places.max_pdu ≡ stream.group.info.max_pdu
  pub buffer : vec_len store.undecided.octets ≡ stream.group.info.max_sdu
  pub first : stream.first ≤ event
  pub last : event ≤ 2 ^ 39

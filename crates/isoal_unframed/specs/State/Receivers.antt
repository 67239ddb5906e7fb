-- What is true of every receiver: its ring has room for the window, and its open event is within bounds.
use Rattle.std.specs.Prelude.{◌≡◌, ◌≤◌, vec_len}
use Rattle.isoal_base.specs.Stays.{window_of}
use Rattle.isoal_unframed.specs.declared.ring.Ring.{Ring}
use Rattle.isoal_unframed.specs.State.Opening.{IsOpen}
use Rattle.isoal_unframed.specs.declared.stream.OpenEvent.{OpenEvent}
use Rattle.isoal_unframed.specs.declared.stream.Stream.{Stream}

pub record IsReceiver (stream : Stream) (current : OpenEvent) (ring : Ring) : Type 0 where
  pub room : vec_len ring.cells ≡ window_of stream.group.info
  pub octets : ring.max_pdu ≡ stream.group.info.max_pdu
  pub first : stream.first ≤ current.event
  pub is_open : IsOpen stream.group.info current

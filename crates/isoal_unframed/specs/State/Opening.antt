-- An open event: its first payload number, and the place of that in a ring of H + 1 events.
use Rattle.std.specs.Prelude.{◌≡◌, ◌≤◌, ◌*◌, ◌^◌}
use Rattle.big_info.specs.declared.info.BigInfo.{BigInfo}
use Rattle.isoal_unframed.specs.State.Streams.{place_of}
use Rattle.isoal_unframed.specs.declared.stream.OpenEvent.{OpenEvent}

pub record IsOpen (info : BigInfo) (current : OpenEvent) : Type 0 where
  pub number : current.number ≡ current.event * info.bn
  pub place : current.place ≡ place_of info current.event
  pub last : current.event ≤ 2 ^ 39

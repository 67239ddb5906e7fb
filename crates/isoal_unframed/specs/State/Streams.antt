-- The stay of a receiver, and where an event's numbers begin in its ring of H + 1 events.
use Rattle.std.specs.Prelude.{ℕ, ◌+◌, ◌-◌, ◌*◌, ◌%◌, nat_lt, if◌then◌else◌}
use Rattle.big_info.specs.declared.info.BigInfo.{BigInfo}
use Rattle.big_info.specs.Schedule.{horizon_of}
use Rattle.isoal_base.specs.Stays.{Stay, window_of}
use Rattle.isoal_unframed.specs.declared.stream.Stream.{Stream}

abbrev pub stay_of : Stream → Stay
stay_of stream = record {
  info = stream.group.info;
  bis = stream.bis;
  first = stream.first;
  origin = stream.origin;
  delay = stream.delay;
}

abbrev pub place_of : BigInfo → ℕ → ℕ
place_of info event = event % (horizon_of info + 1) * info.bn

-- the place of the number at this index of the window of an event
abbrev pub place_at : BigInfo → ℕ → ℕ → ℕ
place_at info event index =
    if nat_lt (place_of info event + index) (window_of info) then place_of info event + index
    else place_of info event + index - window_of info

-- Events of a framed stream (Core 5.2, volume 6 part G, section 2.2), worked by hand: their acts, the newest first, and
-- what they encode, with PDUs of at most 10 octets.
use Rattle.std.specs.Prelude.{ℕ, ◌≡◌, true, false, List, [], ◌∷◌}
use Rattle.isoal_base.specs.Air.{Laid}
use Rattle.isoal_framed.specs.Air.{AllCome, event_of}
use Rattle.isoal_framed.specs.Calls.{Timed}
use Rattle.isoal_framed.specs.Places.{Act, carries, leaves_out, ends}

-- these acts come behind the earlier ones, and encode this event
pub record IsWorked (units : List Timed) (anchor : ℕ) (earlier acts : List Act) (event : Laid) : Type 0 where
  pub come : AllCome 10 units anchor earlier acts
  pub encoded : event_of units anchor earlier acts ≡ event

abbrev pub long_unit : Timed
long_unit = record { time = 15000; octets = 0xd0 ∷ 0xd1 ∷ 0xd2 ∷ 0xd3 ∷ 0xd4 ∷ 0xd5 ∷ 0xd6 ∷ 0xd7 ∷ [] }

abbrev pub crossing_unit : Timed
crossing_unit = record { time = 15000; octets = 0xd0 ∷ 0xd1 ∷ 0xd2 ∷ 0xd3 ∷ 0xd4 ∷ 0xd5 ∷ 0xd6 ∷ [] }

abbrev pub late_unit : Timed
late_unit = record { time = 25000; octets = 0xe0 ∷ 0xe1 ∷ 0xe2 ∷ [] }

abbrev pub old_unit : Timed
old_unit = record { time = 0; octets = 0xaa ∷ [] }

-- a unit of 8 octets over two PDUs of an event
abbrev pub OverTwoPdus : Type 0
OverTwoPdus = IsWorked (long_unit ∷ []) 20000 []
    (ends ∷ carries 3 true ∷ ends ∷ carries 5 false ∷ []) (record {
      pdus = (0x02 ∷ 0x0a ∷ 0x00 ∷ 0x08 ∷ 0x88 ∷ 0x13 ∷ 0x00 ∷ 0xd0 ∷ 0xd1 ∷ 0xd2 ∷ 0xd3 ∷ 0xd4 ∷ [])
          ∷ (0x02 ∷ 0x05 ∷ 0x03 ∷ 0x03 ∷ 0xd5 ∷ 0xd6 ∷ 0xd7 ∷ []) ∷ [];
      stale = [];
    })

-- the rest of a unit that began in the event before, and a start behind it
abbrev pub OverTwoEvents : Type 0
OverTwoEvents = IsWorked (crossing_unit ∷ late_unit ∷ []) 30000 (ends ∷ carries 5 false ∷ []) (ends ∷ carries 1 false ∷ carries 2 true ∷ []) (record {
  pdus = (0x02 ∷ 0x0a ∷ 0x03 ∷ 0x02 ∷ 0xd5 ∷ 0xd6 ∷ 0x00 ∷ 0x04 ∷ 0x88 ∷ 0x13 ∷ 0x00 ∷ 0xe0 ∷ []) ∷ [];
  stale = [];
})

-- a unit whose time is 20 s before the anchor
abbrev pub LeftOut : Type 0
LeftOut = IsWorked (old_unit ∷ []) 20000000 [] (ends ∷ leaves_out ∷ [])
    (record { pdus = (0x02 ∷ 0x00 ∷ []) ∷ []; stale = 0 ∷ [] })

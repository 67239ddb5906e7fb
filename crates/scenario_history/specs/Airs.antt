-- Which airs a scenario is taken over: any function from what fixes a source and from its calls to the airs of its streams
-- that meets the relation of the framing (Core 5.2, volume 6 part G, section 2), asked at the groups that pass the group
-- check and at calls that were accepted. Lists of calls have the newest first.
use Rattle.std.specs.Prelude.{◌≡◌, List, [], ◌∷◌, None}
use Rattle.big_info.specs.declared.group.Group.{Group}
use Rattle.source_machine.specs.Airs.{AreAirs, Airs}
use Rattle.source_machine.specs.Calls.{Setup, Call, give, event}
use Rattle.source_machine.specs.Faults.{give_fault, event_fault}

-- no call was refused after those before it
abbrev pub AreAccepted : Airs → Setup → List Call → Type 0
AreAccepted airs setup [] = Unit {0}
AreAccepted airs setup (give bis time octets ∷ earlier) =
    AreAccepted airs setup earlier × (give_fault setup earlier (airs setup earlier) bis time octets ≡ None)
AreAccepted airs setup (event ∷ earlier) = AreAccepted airs setup earlier × (event_fault setup earlier ≡ None)

-- the airs meet the relation of their framing
pub record MeetAirs (airs : Airs) : Type 0 where
  pub meet : (group : Group) → (setup : Setup) → (calls : List Call) → setup.info ≡ group.info → AreAccepted airs setup calls
      → AreAirs setup calls (airs setup calls)

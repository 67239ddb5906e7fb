-- The state of a sender of a framed stream, and how it stands for its calls.
use Rattle.std.specs.Prelude.{ℕ, ◌+◌, ◌-◌, ◌≤◌, ◌<◌, ◌≡◌, ◌==◌, List, [], ◌∷◌, ◌++◌, length, drop, Option, Some, None, if◌then◌else◌}
use Rattle.std.specs.List.{slice_get}
use Rattle.big_info.specs.declared.info.BigInfo.{BigInfo}
use Rattle.iso_pdu.specs.Layout.{Part}
use Rattle.isoal_base.specs.Air.{Air}
use Rattle.isoal_base.specs.declared.laid.PutFault.{PutFault}
use Rattle.isoal_base.specs.declared.laid.PutFault.TheVariants.{TooLong, TimeOrder, Backlog, Memory}
use Rattle.isoal_framed.specs.Air.{AllCome, IsAirOf, open_parts, pdus_of, stale_of}
use Rattle.isoal_framed.specs.Calls.{Call, Timed, accepted, last_time}
use Rattle.isoal_framed.specs.Places.{Act, done, sent, room}

-- the group, the time of the last unit, the units that aren't wholly sent, and how much of the first is sent
pub record Sender : Type 0 where
  pub info : BigInfo
  pub last : Option ℕ
  pub units : List Timed
  pub sent : ℕ

-- how many units wait for their start
abbrev pub waiting_of : ℕ → List Timed → ℕ
waiting_of sent units = if sent == 0 then length units else length units - 1

abbrev pub waiting : Sender → ℕ
waiting sender = waiting_of sender.sent sender.units

-- a time above the last one, and not past a limit where there is one
abbrev pub Above : Option ℕ → ℕ → Type 0
Above None time = Unit {0}
Above (Some last) time = last < time

abbrev pub NotPast : Option ℕ → ℕ → Type 0
NotPast None time = Unit {0}
NotPast (Some limit) time = time ≤ limit

abbrev pub InOrder : Sender → Option ℕ → ℕ → Type 0
InOrder sender limit time = Above sender.last time × NotPast limit time

-- a unit is taken
pub record MayWait (sender : Sender) (limit : Option ℕ) (time : ℕ) (octets : List ℕ) : Type 0 where
  pub fits : length octets ≤ sender.info.max_sdu
  pub order : InOrder sender limit time
  pub room : waiting sender < 16

-- when a unit is refused: no two of these hold together, and none where it may wait but want of memory
abbrev pub PutFaultIs : Sender → Option ℕ → ℕ → List ℕ → PutFault → Type 0
PutFaultIs sender limit time octets TooLong = sender.info.max_sdu < length octets
PutFaultIs sender limit time octets TimeOrder = (length octets ≤ sender.info.max_sdu) × (¬ InOrder sender limit time)
PutFaultIs sender limit time octets Backlog = (length octets ≤ sender.info.max_sdu) × InOrder sender limit time × (16 ≤ waiting sender)
PutFaultIs sender limit time octets Memory = MayWait sender limit time octets

abbrev pub with_unit : Sender → ℕ → List ℕ → Sender
with_unit sender time octets =
    record sender { last = Some time; units = sender.units ++ record { time = time; octets = octets } ∷ [] }

-- what is sent of the first unit is less than the unit
pub record IsPartly (sent : ℕ) (units : List Timed) : Type 0 where
  pub none : units ≡ [] → sent ≡ 0
  pub first : (unit : Timed) → slice_get units 0 ≡ Some unit → (sent ≤ length unit.octets) × (1 ≤ sent → sent < length unit.octets)

pub record IsSender (info : BigInfo) (sent : ℕ) (units : List Timed) : Type 0 where
  pub framed : info.framing ≡ 1
  pub partly : IsPartly sent units

-- an event that is being laid: the acts so far behind the earlier ones, from the units of which the first `past` are
-- wholly sent or left out in it
pub record Going (max_pdu : ℕ) (units : List Timed) (anchor : ℕ) (earlier acts : List Act)
    (past sent_now room_now : ℕ) (parts : List Part) (pdus : List (List ℕ)) (stale : List ℕ) : Type 0 where
  pub come : AllCome max_pdu units anchor earlier acts
  pub past_is : done earlier + past ≡ done (acts ++ earlier)
  pub sent_is : sent_now ≡ sent (acts ++ earlier)
  pub room_is : room_now ≡ room max_pdu (acts ++ earlier)
  pub parts_are : parts ≡ open_parts units anchor earlier acts
  pub pdus_are : pdus ≡ pdus_of units anchor earlier acts
  pub stale_are : stale ≡ stale_of units earlier acts

-- the sender is that of these calls, which laid this air
pub record StandsFor (info : BigInfo) (calls : List Call) (air : Air) (sender : Sender) : Type 0 where
  pub acts : List Act
  pub group : sender.info ≡ info
  pub air_is : IsAirOf info calls acts air
  pub last : sender.last ≡ last_time calls
  pub units : sender.units ≡ drop (done acts) (accepted calls)
  pub sent : sender.sent ≡ sent acts

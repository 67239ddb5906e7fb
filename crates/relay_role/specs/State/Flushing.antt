-- What a flush does to the relay and to the source that it gives to, where that one streams. Relays are this project's own.
use Rattle.std.proofs.Common.{inl, inr}
use Rattle.std.specs.Prelude.{ℕ, ◌≡◌, ◌≤◌, ◌⊎◌, true, List, ◌∷◌, ◌++◌, length, Option, Some, None}
use Rattle.std.specs.Borrow.{MutBor}
use Rattle.bcast_base.specs.declared.unit.Unit.{Unit as AudioUnit}
use Rattle.isoal_base.specs.Air.{Air}
use Rattle.source_machine.specs.Airs.{AreAirs, Airs}
use Rattle.source_machine.specs.Calls.{Call}
use Rattle.source_machine.specs.State.Sources.{Source, StandsFor}
use Rattle.relay_role.specs.Relayed.{MeetAfter, Second, stopped, streaming, after_offers, dropped_from, refusal_of, taken_unless, told}
use Rattle.relay_role.specs.State.Relays.{Relay}
use Rattle.relay_role.specs.declared.dropped.DropName.{DropName}
use Rattle.relay_role.specs.declared.dropped.DropName.TheVariants.{NotStreaming}
use Rattle.relay_role.specs.declared.dropped.DroppedUnit.{DroppedUnit}

-- the source that is lent, where one is, as it comes in and as it is left
abbrev pub second_in : Option (MutBor Source) → Option Source
second_in None = None
second_in (Some source) = Some source.now

abbrev pub left_by : Unit {0} ⊎ ((MutBor Source × Unit {0}) ⊎ ⊥) → Option Source
left_by (inr (inl left)) = Some left.0.now
left_by _ = None

-- a source that a relay may give to: of a framed group that has the stream and no cipher, with times that may be ahead
pub record MayTake (to : ℕ) (source : Source) : Type 0 where
  pub framed : source.setup.info.framing ≡ 1
  pub plain : source.cipher ≡ None
  pub ahead : source.setup.ahead ≡ true
  pub stream : to ≤ source.setup.info.num_bis

-- the source streams and is as these calls leave it, or has stopped
abbrev pub SecondIs : Second → Option Source → Type 0
SecondIs stopped None = Unit {0}
SecondIs (streaming setup calls) (Some source) = (source.setup ≡ setup) × StandsFor calls source
SecondIs second source = ⊥

-- all that units don't change of a source; one that has failed takes none
pub record Keeps (old new : Source) : Type 0 where
  pub identity : new.identity ≡ old.identity
  pub base : new.base ≡ old.base
  pub cipher : new.cipher ≡ old.cipher
  pub setup : new.setup ≡ old.setup
  pub next : new.next ≡ old.next
  pub failed : old.failed ≡ true → new ≡ old

abbrev pub KeepsSecond : Option Source → Option Source → Type 0
KeepsSecond None None = Unit {0}
KeepsSecond (Some old) (Some new) = Keeps old new
KeepsSecond old new = ⊥

-- these units were offered to a stream, one behind the other
pub record Offers (to : ℕ) (units : List AudioUnit) (old new : Option Source) : Type 0 where
  pub keeps : KeepsSecond old new
  pub stands : (airs : Airs) (second : Second) → SecondIs second old → MeetAfter airs to second → SecondIs (after_offers airs to units second) new

-- and these of them were dropped
pub record Flushes (to : ℕ) (units : List AudioUnit) (dropped : List DroppedUnit) (old new : Option Source) : Type 0 where
  pub offers : Offers to units old new
  pub drops : (airs : Airs) (second : Second) → SecondIs second old → MeetAfter airs to second → dropped ≡ dropped_from airs to 0 units second

-- the first units that waited were offered, and the rest waits
pub record OffersSome (to : ℕ) (waited waits : List AudioUnit) (old new : Option Source) : Type 0 where
  pub offered : List AudioUnit
  pub waiting : waited ≡ offered ++ waits
  pub offers : Offers to offered old new

pub record StopsShort (relay left : Relay) (old new : Option Source) : Type 0 where
  pub bis : left.bis ≡ relay.bis
  pub to : left.to ≡ relay.to
  pub offers : OffersSome relay.to relay.waiting left.waiting old new

-- one unit was offered to a source that streams, which took it or had this reason not to
pub record OffersOne (to : ℕ) (unit : AudioUnit) (name : Option DropName) (old new : Source) : Type 0 where
  pub keeps : Keeps old new
  pub stands : (calls : List Call) (airs : List Air) → StandsFor calls old → AreAirs old.setup calls airs
      → (refusal_of old.setup calls airs to unit ≡ name) × SecondIs (taken_unless name to unit (streaming old.setup calls)) (Some new)

-- the first unit that waited was offered, and told with its number where it was dropped
pub record OffersFirst
    (to number : ℕ) (waited waits : List AudioUnit) (dropped now_dropped : List DroppedUnit) (old new : Source) : Type 0 where
  pub unit : AudioUnit
  pub name : Option DropName
  pub waiting : waited ≡ unit ∷ waits
  pub tells : now_dropped ≡ dropped ++ told number name
  pub offers : OffersOne to unit name old new

-- the first unit that waited was dropped, since there is no source
pub record DropsFirst (number : ℕ) (waited waits : List AudioUnit) (dropped now_dropped : List DroppedUnit) : Type 0 where
  pub unit : AudioUnit
  pub waiting : waited ≡ unit ∷ waits
  pub tells : now_dropped ≡ dropped ++ told number (Some NotStreaming)

-- within a flush: these units were offered so far, of which the next has this number, and the rest waits
pub record Offered
    (to number : ℕ) (waited waits : List AudioUnit) (dropped : List DroppedUnit) (old new : Option Source) : Type 0 where
  pub offered : List AudioUnit
  pub waiting : waited ≡ offered ++ waits
  pub count : length offered ≡ number
  pub flushes : Flushes to offered dropped old new

-- A step of the delegator, as each link sees it (Broadcast Audio Scan Service 1.0, section 3.2).
use Rattle.std.specs.Prelude.{ℕ, ◌≡◌, List, ◌∷◌, ◌++◌, map, Option}
use Rattle.delegator_history.specs.Notices.{changes, handed_out}
use Rattle.delegator_history.specs.States.{snapshot_of}
use Rattle.delegator_history.specs.Trains.{Setup}
use Rattle.sink_history.specs.Calls.{Call, stepped, served, steps_of}
use Rattle.sink_history.specs.Links.{delivered, notices_waiting, read_waits, view}

-- the call is a step of the delegator, or a write that is served on some link
abbrev pub IsStep : Call → Type 0
IsStep (stepped step) = Unit {0}
IsStep (served link) = Unit {0}
IsStep _ = ⊥

-- the notices of the step wait on the link behind the others, each as the delegator hands it out; all else there stays
pub record NotifiesLink (setup : Setup) (mtu : Option ℕ) (link : ℕ) (call : Call) (calls : List Call) : Type 0 where
  pub notices :
      map (delivered mtu) (notices_waiting setup mtu link (call ∷ calls)) ≡ map (delivered mtu) (notices_waiting setup mtu link calls)
      ++ map (handed_out mtu) (changes setup.slots (snapshot_of setup (steps_of calls)) (snapshot_of setup (steps_of (call ∷ calls))))
  pub views : (slot : ℕ) → view setup mtu link slot (call ∷ calls) ≡ view setup mtu link slot calls
  pub reads : (slot : ℕ) → read_waits setup mtu link slot (call ∷ calls) ≡ read_waits setup mtu link slot calls

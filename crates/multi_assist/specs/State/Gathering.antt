-- Notices that go from a sink to its links, each as the sink hands it out.
use Rattle.std.specs.Prelude.{ℕ, zero, suc, ◌≡◌, ◌++◌, ◌∷◌, [], List, map, Option}
use Rattle.delegator_history.specs.declared.notice.Notice.{Notice}
use Rattle.delegator_history.specs.Notices.{handed_out}
use Rattle.delegator_history.specs.States.{notified as handed}
use Rattle.delegator_history.specs.Trains.{Setup}
use Rattle.delegator_control.specs.State.Machines.{Machine}
use Rattle.delegator_machine.specs.Calls.{Call, control}
use Rattle.delegator_machine.specs.State.Halves.{Halves, StandsFor}
use Rattle.multi_assist.specs.State.Places.{Linked, with_notices}

-- these went to every joined link, and the sink has none of them
pub record HasGiven (notified : List Notice) (before now : Machine) (old new : List (Option Linked)) : Type 0 where
  pub rest : now ≡ record before { waiting = now.waiting }
  pub links : new ≡ map (with_notices (map (handed_out before.mtu) notified)) old

-- all went to the links
pub record Gathers (before now : Machine) (old new : List (Option Linked)) : Type 0 where
  pub given : HasGiven before.waiting before now old new
  pub none : now.waiting ≡ []

-- the first of them went to the links; of the others the sink has all but the first
pub record StopsShort (before now : Machine) (old new : List (Option Linked)) : Type 0 where
  pub notified : List Notice
  pub last : Notice
  pub all : before.waiting ≡ notified ++ last ∷ now.waiting
  pub given : HasGiven notified before now old new

-- so far: the first of them went to the links, and the sink has the others
pub record Gathered (before now : Machine) (old new : List (Option Linked)) : Type 0 where
  pub notified : List Notice
  pub all : before.waiting ≡ notified ++ now.waiting
  pub given : HasGiven notified before now old new

-- so many notices more were asked for
abbrev pub asked : ℕ → List Call → List Call
asked zero calls = calls
asked (suc count) calls = control handed ∷ asked count calls

-- the sink stands for the calls that it took before, and for those that asked for notices
abbrev pub StandsOn : Halves → Halves → Type 0
StandsOn before now = (setup : Setup) (calls : List Call) → StandsFor setup calls before → (count : ℕ) × StandsFor setup (asked count calls) now

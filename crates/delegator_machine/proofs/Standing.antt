-- A Scan Delegator that stands for its calls stands for them and one more.
use Rattle.delegator_machine.proofs.Prelude.{◌≡◌, Bool, List, ◌∷◌, Some, None, sym, ◌∙◌, ap, subst, Step, snapshot_of, Setup, BigSync, has_group, Machine, Call, control, steps_of, big_sync_given, by_numbers, with_leave, with_step, group_calls, Halves, StandsFor, arith}
use Rattle.group_sink.specs.Calls as sinks
use Rattle.group_sink.specs.State.Sinks.{StandsFor as SinkStands}
use Rattle.delegator_control.specs.State.Machines.{StandsFor as ScanStands}

-- what the control half has
pub snapshot_is : (setup : Setup) (calls : List Call) (d : Halves) → StandsFor setup calls d → d.scan.snapshot ≡ snapshot_of setup (steps_of calls)
snapshot_is setup calls d stands = subst (λ s. d.scan.snapshot ≡ snapshot_of s (steps_of calls)) stands.setup_is stands.steps.snapshot

-- ---- steps of the control half

after_is : (setup : Setup) (step : Step) (calls : List Call) (old new : Halves) → new.scan.setup ≡ old.scan.setup
    → ScanStands (step ∷ steps_of calls) new.scan → StandsFor setup calls old → new.scan.snapshot ≡ snapshot_of setup (step ∷ steps_of calls)
after_is setup step calls old new same steps stands = grind (arith, snapshot_of, steps_of)

-- that synchronizes the sink to a BIG
pub stands_joined : (setup : Setup) (step : Step) (calls : List Call) (old new : Halves) (big_sync : BigSync)
    → big_sync_given setup (snapshot_of setup (steps_of calls)) step ≡ Some big_sync → new.scan.setup ≡ old.scan.setup
    → ScanStands (step ∷ steps_of calls) new.scan → SinkStands (sinks.tune (by_numbers big_sync) ∷ group_calls setup calls) new.sink
    → StandsFor setup calls old → StandsFor setup (control step ∷ calls) new
stands_joined setup step calls old new big_sync is same steps sink stands = grind (arith, with_step, snapshot_of, steps_of, group_calls)

-- that puts it on none
pub stands_stepped : (setup : Setup) (step : Step) (calls : List Call) (old new : Halves)
    → big_sync_given setup (snapshot_of setup (steps_of calls)) step ≡ None → new.scan.setup ≡ old.scan.setup
    → ScanStands (step ∷ steps_of calls) new.scan
    → ((past : List sinks.Call) → SinkStands past old.sink → SinkStands (with_leave (has_group old.scan.snapshot.place) (has_group new.scan.snapshot.place) past) new.sink)
    → StandsFor setup calls old → StandsFor setup (control step ∷ calls) new
stands_stepped setup step calls old new none same steps sink stands =
    grind (arith, group_calls, snapshot_of, steps_of, with_leave, has_group, after_is, snapshot_is, with_step)

-- and that was settled then
pub stands_settled : (setup : Setup) (step : Step) (calls : List Call) (old new : Halves) (mid : Machine) (was : Bool)
    → big_sync_given setup (snapshot_of setup (steps_of calls)) step ≡ None → mid.setup ≡ old.scan.setup → ScanStands (step ∷ steps_of calls) mid
    → was ≡ has_group old.scan.snapshot.place → new.scan ≡ mid
    → ((past : List sinks.Call) → SinkStands past old.sink → SinkStands (with_leave was (has_group mid.snapshot.place) past) new.sink)
    → StandsFor setup calls old → StandsFor setup (control step ∷ calls) new
stands_settled setup step calls old new mid was none same steps is made sink stands =
    stands_stepped setup step calls old new none (ap (λ (m : Machine). m.setup) made ∙ same) (subst (ScanStands (step ∷ steps_of calls)) (sym made) steps)
    (grind (arith, with_leave, has_group)) stands

stays : (on : Bool) (past : List sinks.Call) → with_leave on on past ≡ past
stays on past = grind arith

-- that leaves it where it was
pub stands_quiet : (setup : Setup) (step : Step) (calls : List Call) (old new : Halves)
    → big_sync_given setup (snapshot_of setup (steps_of calls)) step ≡ None → new.scan.setup ≡ old.scan.setup
    → ScanStands (step ∷ steps_of calls) new.scan → has_group new.scan.snapshot.place ≡ has_group old.scan.snapshot.place → new.sink ≡ old.sink
    → StandsFor setup calls old → StandsFor setup (control step ∷ calls) new
stands_quiet setup step calls old new none same steps place sink stands = grind (arith, stands_stepped, with_leave, has_group, stays)

-- ---- what the receivers hear

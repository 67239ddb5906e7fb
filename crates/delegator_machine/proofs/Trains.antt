-- A train that is heard synchronizes the sink to a BIG, or leaves it off one.
use Rattle.delegator_machine.proofs.Prelude.{ℕ, ◌≡◌, Bool, true, false, List, ◌∷◌, Option, Some, None, option_map, refl, sym, ◌∙◌, ap, not, is_some, if◌then◌else◌, Place, idle, on_train, on_group, Snapshot, entry_at, is_on_group, train_heard, snapshot_of, nothing, after, wishes_at, TrainOutcome, Setup, Train, ignored, base_in, outcome_by, by_base, by_broadcast_id, done_by_outcome, is_elsewhere, is_wanted, big_sync_in, BigSync, OnGroup, fresh_on, has_base, is_followed, has_group, Machine, moved, Call, control, steps_of, group_calls, by_numbers, Halves, StandsFor, arith}
use Rattle.base_grammar.specs.AdReading.{broadcast_id_of}
use Rattle.delegator_history.specs.declared.train_heard.TrainHeard.{TrainHeard}
use Rattle.group_sink.specs.Calls as sinks
use Rattle.group_sink.specs.State.Sinks.{StandsFor as SinkStands}
use Rattle.delegator_control.specs.State.Machines.{StandsFor as ScanStands}
use Rattle.delegator_machine.proofs.Standing.{snapshot_is, stands_joined, stands_quiet}

-- ---- of a sink that is on a group a train changes nothing

kept_off : (here : Bool) (elsewhere already : TrainHeard) (more : TrainOutcome)
    → done_by_outcome (if not here then ignored elsewhere else (if here then ignored already else more)) ≡ nothing
kept_off here elsewhere already more = grind arith

by_id_kept : (setup : Setup) (snapshot : Snapshot) (train : Train) (other : Option ℕ) (id : Option (List ℕ)) → snapshot.place ≡ on_group other
    → done_by_outcome (by_broadcast_id setup snapshot train id) ≡ nothing
by_id_kept setup snapshot train other id at =
    grind (arith, by_base, wishes_at, entry_at, base_in, done_by_outcome, is_elsewhere, ignored, is_on_group, kept_off, on_group, is_wanted)

-- ---- a train that brings no group

off_then : (outcome : TrainOutcome) (snapshot : Snapshot) → big_sync_in outcome ≡ None → has_group snapshot.place ≡ false
    → has_group (after (done_by_outcome outcome) snapshot).place ≡ false
off_then outcome snapshot none off = grind arith

pub brings_none : (setup : Setup) (snapshot : Snapshot) (train : Train) → big_sync_in (outcome_by setup snapshot train) ≡ None
    → has_group (after (done_by_outcome (outcome_by setup snapshot train)) snapshot).place ≡ has_group snapshot.place
brings_none setup snapshot train none = at snapshot.place refl
  where
    at : (place : Place) → snapshot.place ≡ place → has_group (after (done_by_outcome (outcome_by setup snapshot train)) snapshot).place ≡ has_group snapshot.place
    at (on_group other) is = ap (λ done. has_group (after done snapshot).place) (by_id_kept setup snapshot train other (broadcast_id_of train.ext) is)
    at idle is = let off : has_group snapshot.place ≡ false = ap has_group is in off_then (outcome_by setup snapshot train) snapshot none off ∙ sym off
    at (on_train slot) is = let off : has_group snapshot.place ≡ false = ap has_group is in off_then (outcome_by setup snapshot train) snapshot none off ∙ sym off

-- ---- the step

pub stands_trained : (setup : Setup) (train : Train) (calls : List Call) (old new : Halves) (given : Option BigSync) (made : Option OnGroup)
    → given ≡ big_sync_in (outcome_by old.scan.setup old.scan.snapshot train) → made ≡ option_map (λ big_sync. fresh_on (by_numbers big_sync)) given
    → (made ≡ None → new.sink ≡ old.sink)
    → ((tuning : BigSync) → (past : List sinks.Call) → made ≡ Some (fresh_on tuning) → SinkStands (sinks.tune tuning ∷ past) new.sink)
    → new.scan ≡ moved (done_by_outcome (outcome_by old.scan.setup old.scan.snapshot train)) old.scan
    → ScanStands (train_heard train ∷ steps_of calls) new.scan
    → StandsFor setup calls old → StandsFor setup (control (train_heard train) ∷ calls) new
stands_trained setup train calls old new None made is makes quiet puts step steps stands =
    let none : big_sync_in (outcome_by old.scan.setup old.scan.snapshot train) ≡ None = sym is in
    let same : big_sync_in (outcome_by old.scan.setup old.scan.snapshot train) ≡ big_sync_in (outcome_by setup (snapshot_of setup (steps_of calls)) train) =
    λ i. big_sync_in (outcome_by (stands.setup_is i) (snapshot_is setup calls old stands i) train) in
    stands_quiet setup (train_heard train) calls old new (sym same ∙ none) (ap (λ (m : Machine). m.setup) step) steps
    (ap (λ (m : Machine). has_group m.snapshot.place) step ∙ brings_none old.scan.setup old.scan.snapshot train none) (quiet makes) stands
stands_trained setup train calls old new (Some big_sync) made is makes quiet puts step steps stands =
    let same : big_sync_in (outcome_by old.scan.setup old.scan.snapshot train) ≡ big_sync_in (outcome_by setup (snapshot_of setup (steps_of calls)) train) =
    λ i. big_sync_in (outcome_by (stands.setup_is i) (snapshot_is setup calls old stands i) train) in
    stands_joined setup (train_heard train) calls old new big_sync (sym same ∙ sym is) (ap (λ (m : Machine). m.setup) step) steps
    (puts (by_numbers big_sync) (group_calls setup calls) makes) stands

-- ---- where memory may be wanted

pub base_followed : (outcome : TrainOutcome) → has_base outcome ≡ true → is_followed outcome ≡ true
base_followed outcome is = grind arith

pub joined_followed : (big_sync : Option BigSync) (outcome : TrainOutcome) → big_sync ≡ big_sync_in outcome → is_some big_sync ≡ true → is_followed outcome ≡ true
joined_followed big_sync outcome is some = grind arith

pub followed_so : (setup : Setup) (calls : List Call) (old : Halves) (train : Train) → StandsFor setup calls old
    → is_followed (outcome_by old.scan.setup old.scan.snapshot train) ≡ true → is_followed (outcome_by setup (snapshot_of setup (steps_of calls)) train) ≡ true
followed_so setup calls old train stands is = grind (arith, is_followed, outcome_by, snapshot_is)

-- Which steps synchronize a sink to a BIG.
use Rattle.delegator_machine.proofs.Prelude.{ℕ, ◌≡◌, Bool, true, false, List, Option, Some, None, Result, unwrap_or, refl, ◌∙◌, not, if◌then◌else◌, OpFault, Operation, op_of, Place, idle, on_train, on_group, Snapshot, entry_at, is_on, is_on_group, Step, record_added, locations_set, contexts_set, mtu_set, sync_to_group, written, train_heard, train_lost, control_heard, notified, done_by, Done, after, capability_after, encryption_given, place_given, placed, same_streams, slots_after, taken_given, wishes_at, TrainOutcome, Setup, outcome_by, done_by_outcome, big_sync_in, BigSync, has_group, big_sync_given, arith}
use Rattle.delegator_history.specs.declared.replies.Cause.{Cause}
use Rattle.delegator_history.specs.declared.train_heard.ControlHeard.{ControlHeard}
use Rattle.delegator_history.specs.Controls.{control_heard as answer_to, done_heard}
use Rattle.delegator_history.specs.Writes.{cause_of, done_read}
use Rattle.delegator_machine.proofs.Trains.{brings_none}

placed_place : (given : Option Place) (encryption : Option Bool) (streams : Option (List ℕ)) (snapshot : Snapshot)
    → (placed given encryption streams snapshot).place ≡ unwrap_or given snapshot.place
placed_place given encryption streams snapshot = grind arith

after_place : (done : Done) (snapshot : Snapshot) → (after done snapshot).place ≡ unwrap_or (place_given snapshot done) snapshot.place
after_place done snapshot = grind (arith, placed_place, place_given, encryption_given, taken_given, slots_after, capability_after)

-- ---- no write synchronizes a sink to a BIG

wanted_off : (on zero leave : Bool) (slot : ℕ) (place : Place) → has_group place ≡ false
    → has_group (unwrap_or (if on then (if zero then Some idle else (if leave then Some (on_train slot) else None)) else None) place) ≡ false
wanted_off on x2 leave slot place off = grind arith

read_off : (read : Result Operation OpFault) (cause : Option Cause) (snapshot : Snapshot) → has_group snapshot.place ≡ false
    → has_group (after (done_read snapshot read cause) snapshot).place ≡ false
read_off read cause snapshot off =
    grind (arith, unwrap_or, has_group, after_place, wanted_off, is_on, is_on_group, not, same_streams, wishes_at, entry_at)

-- ---- no control PDU does

heard_off : (answer : ControlHeard) (snapshot : Snapshot) → has_group snapshot.place ≡ false → has_group (after (done_heard answer) snapshot).place ≡ false
heard_off answer snapshot off = grind (arith, has_group, after_place, idle, on_train, on_group)

-- ---- a step that brings no group puts a sink on none, and one that brings a group puts it there

pub stays_off : (setup : Setup) (snapshot : Snapshot) (step : Step) → big_sync_given setup snapshot step ≡ None → has_group snapshot.place ≡ false
    → has_group (after (done_by setup snapshot step) snapshot).place ≡ false
stays_off setup snapshot (record_added entry) none off = off
stays_off setup snapshot (locations_set locations) none off = off
stays_off setup snapshot (contexts_set contexts) none off = off
stays_off setup snapshot (mtu_set mtu) none off = off
stays_off setup snapshot (sync_to_group big_sync) none off = absurd cc
stays_off setup snapshot (written octets) none off = read_off (op_of octets) (cause_of snapshot octets) snapshot off
stays_off setup snapshot (train_heard train) none off = brings_none setup snapshot train none ∙ off
stays_off setup snapshot train_lost none off = refl
stays_off setup snapshot (control_heard octets) none off = heard_off (answer_to snapshot.place octets) snapshot off
stays_off setup snapshot notified none off = off

outcome_on : (outcome : TrainOutcome) (snapshot : Snapshot) (big_sync : BigSync) → big_sync_in outcome ≡ Some big_sync
    → has_group (after (done_by_outcome outcome) snapshot).place ≡ true
outcome_on outcome snapshot big_sync is = grind arith

pub comes_on : (setup : Setup) (snapshot : Snapshot) (step : Step) (big_sync : BigSync) → big_sync_given setup snapshot step ≡ Some big_sync
    → has_group (after (done_by setup snapshot step) snapshot).place ≡ true
comes_on setup snapshot (record_added entry) big_sync is = absurd cc
comes_on setup snapshot (locations_set locations) big_sync is = absurd cc
comes_on setup snapshot (contexts_set contexts) big_sync is = absurd cc
comes_on setup snapshot (mtu_set mtu) big_sync is = absurd cc
comes_on setup snapshot (sync_to_group other) big_sync is = refl
comes_on setup snapshot (written octets) big_sync is = absurd cc
comes_on setup snapshot (train_heard train) big_sync is = outcome_on (outcome_by setup snapshot train) snapshot big_sync is
comes_on setup snapshot train_lost big_sync is = absurd cc
comes_on setup snapshot (control_heard octets) big_sync is = absurd cc
comes_on setup snapshot notified big_sync is = absurd cc

-- All that the ticks handed up ends with what they handed since the sink was synchronized to its BIG.
use Rattle.sink_c.proofs.Prelude.{◌≡◌, Bool, true, false, List, [], ◌∷◌, ◌++◌, Option, Some, None, append-nil, append_assoc, ap, refl, sym, ◌∙◌, ◌&&◌, not, if◌then◌else◌, Setup, Call, control, hear, tick, steps_of, group_calls, big_sync_given, with_step, handed_at, handed_since, BigSync, Handed, all_handed}
use Rattle.delegator_control.specs.Groups.{has_group}
use Rattle.delegator_history.specs.Snapshots.{Snapshot}
use Rattle.delegator_history.specs.States.{snapshot_of}
use Rattle.group_sink.specs.Calls as sinks

abbrev Ends : List Handed → List sinks.Call → Type 0
Ends all calls = (earlier : List Handed) × (all ≡ earlier ++ handed_since calls)

by_leave : (left : Bool) (all : List Handed) (calls : List sinks.Call) → Ends all calls → Ends all (if left then sinks.leave ∷ calls else calls)
by_leave true all calls ends = (all, sym (append-nil all))
by_leave false all calls ends = ends

by_step : (big_sync : Option BigSync) (before after : Snapshot) (all : List Handed) (calls : List sinks.Call) → Ends all calls → Ends all (with_step big_sync before after calls)
by_step None before after all calls ends = by_leave (has_group before.place && not (has_group after.place)) all calls ends
by_step (Some big_sync) before after all calls ends = (all, sym (append-nil all))

pub ends_with : (setup : Setup) (calls : List Call) → Ends (all_handed setup calls) (group_calls setup calls)
ends_with setup [] = ([], refl)
ends_with setup (control step ∷ calls) =
    let before = snapshot_of setup (steps_of calls) in
    by_step (big_sync_given setup before step) before (snapshot_of setup (step ∷ steps_of calls)) (all_handed setup calls) (group_calls setup calls) (ends_with setup calls)
ends_with setup (hear event bis subevent octets ∷ calls) = ends_with setup calls
ends_with setup (tick event ∷ calls) =
    let rest = ends_with setup calls in
    let units = handed_at (group_calls setup calls) event in
    (rest.0, ap (λ all. all ++ units) rest.1 ∙ append_assoc rest.0 (handed_since (group_calls setup calls)) units)

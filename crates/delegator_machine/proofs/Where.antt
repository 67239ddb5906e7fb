-- Both halves are on a group, or on none.
use Rattle.delegator_machine.proofs.Prelude.{◌≡◌, true, false, List, [], ◌∷◌, Option, Some, None, option_map, refl, sym, ◌∙◌, ap, is_some, if◌then◌else◌, Snapshot, Step, snapshot_of, after, Setup, BigSync, has_group, Call, control, hear, tick, steps_of, big_sync_given, last_big_sync, by_numbers, with_step, group_calls, arith, snapshot_goes_on, place}
use Rattle.std.specs.Option.{option_or}
use Rattle.delegator_history.specs.States.{answered}
use Rattle.group_sink.specs.Calls as sinks
use Rattle.delegator_machine.proofs.Places.{comes_on, stays_off}

-- ---- one step

step_both : (given : Option BigSync) (before after : Snapshot) (past : List sinks.Call) → is_some (place past) ≡ has_group before.place
    → (given ≡ None → has_group before.place ≡ false → has_group after.place ≡ false)
    → ((big_sync : BigSync) → given ≡ Some big_sync → has_group after.place ≡ true)
    → is_some (place (with_step given before after past)) ≡ has_group after.place
step_both given before after past both off on = grind (arith, has_group)

step_where : (given : Option BigSync) (before after : Snapshot) (past : List sinks.Call) (last : Option BigSync)
    → place past ≡ (if has_group before.place then option_map by_numbers last else None)
    → (given ≡ None → has_group before.place ≡ false → has_group after.place ≡ false)
    → ((big_sync : BigSync) → given ≡ Some big_sync → has_group after.place ≡ true)
    → place (with_step given before after past) ≡ (if has_group after.place then option_map by_numbers (option_or given last) else None)
step_where given before after past last is off on = grind (arith, option_map, by_numbers, has_group)

-- ---- all calls

off_after : (setup : Setup) (step : Step) (earlier : List Step) → big_sync_given setup (snapshot_of setup earlier) step ≡ None
    → has_group (snapshot_of setup earlier).place ≡ false → has_group (snapshot_of setup (step ∷ earlier)).place ≡ false
off_after setup step earlier none off =
    ap (λ (s : Snapshot). has_group s.place) (snapshot_goes_on setup step earlier) ∙ stays_off setup (snapshot_of setup earlier) step none off

on_after : (setup : Setup) (step : Step) (earlier : List Step) (big_sync : BigSync) → big_sync_given setup (snapshot_of setup earlier) step ≡ Some big_sync
    → has_group (snapshot_of setup (step ∷ earlier)).place ≡ true
on_after setup step earlier big_sync is =
    ap (λ (s : Snapshot). has_group s.place) (snapshot_goes_on setup step earlier) ∙ comes_on setup (snapshot_of setup earlier) step big_sync is

idle_first : (setup : Setup) → has_group (snapshot_of setup []).place ≡ false
unfolding answered
idle_first setup = refl

pub both_on : (setup : Setup) (calls : List Call) → is_some (place (group_calls setup calls)) ≡ has_group (snapshot_of setup (steps_of calls)).place
both_on setup [] = sym (idle_first setup)
both_on setup (control step ∷ calls) =
    let earlier : List Step = steps_of calls in
    step_both (big_sync_given setup (snapshot_of setup earlier) step) (snapshot_of setup earlier) (snapshot_of setup (step ∷ earlier)) (group_calls setup calls)
    (both_on setup calls) (off_after setup step earlier) (on_after setup step earlier)
both_on setup (hear event bis subevent octets ∷ calls) = both_on setup calls
both_on setup (tick event ∷ calls) = both_on setup calls

pub where_it_is : (setup : Setup) (calls : List Call)
    → place (group_calls setup calls) ≡ (if has_group (snapshot_of setup (steps_of calls)).place then option_map by_numbers (last_big_sync setup (steps_of calls)) else None)
where_it_is setup [] = ap (λ on. if on then option_map by_numbers (last_big_sync setup []) else None) (sym (idle_first setup))
where_it_is setup (control step ∷ calls) =
    let earlier : List Step = steps_of calls in
    step_where (big_sync_given setup (snapshot_of setup earlier) step) (snapshot_of setup earlier) (snapshot_of setup (step ∷ earlier)) (group_calls setup calls)
    (last_big_sync setup earlier) (where_it_is setup calls) (off_after setup step earlier) (on_after setup step earlier)
where_it_is setup (hear event bis subevent octets ∷ calls) = where_it_is setup calls
where_it_is setup (tick event ∷ calls) = where_it_is setup calls

-- What a delegator answers is the same without the steps that asked for notices.
use Rattle.scenario_sink.proofs.Prelude.{ℕ, zero, suc, ◌≡◌, Bool, List, [], ◌∷◌, refl, sym, ap, ◌∙◌, is_told, Step, done_by, snapshot_of, after, Setup, snapshot_goes_on, group_calls, with_leave, Halves, Links, has_group, snapshot_in, SinkHistory, Took, unless_told, untold, arith}
use Rattle.delegator_history.specs.States.{notified}
use Rattle.delegator_machine.specs.Calls as machine
use Rattle.group_sink.specs.Calls as sinks
use Rattle.multi_assist.specs.State.Gathering.{asked}

-- ---- the snapshot

one_more : (setup : Setup) (step : Step) (steps : List Step) → snapshot_of setup steps ≡ snapshot_of setup (untold steps)
    → snapshot_of setup (step ∷ steps) ≡ snapshot_of setup (unless_told step (untold steps))
one_more setup notified steps same = snapshot_goes_on setup notified steps ∙ same
one_more setup step steps same =
    snapshot_goes_on setup step steps ∙ ap (λ s. after (done_by setup s step) s) same ∙ sym (snapshot_goes_on setup step (untold steps))

pub same_snapshot : (setup : Setup) (steps : List Step) → snapshot_of setup steps ≡ snapshot_of setup (untold steps)
same_snapshot setup [] = refl
same_snapshot setup (step ∷ steps) = one_more setup step steps (same_snapshot setup steps)

pub no_asking : (step : Step) (steps : List Step) → is_told step ≡ 0 → unless_told step steps ≡ step ∷ steps
no_asking notified steps is = absurd cc
no_asking _ steps is = refl

-- what it has, by the history of its sink
pub its_snapshot : (history : SinkHistory) (d : Halves) (links : Links) → (t : Took history d links) → snapshot_of history.made.setup (machine.steps_of t.taken) ≡ snapshot_in history.made history.calls_made
its_snapshot history d links t = same_snapshot history.made.setup (machine.steps_of t.taken) ∙ ap (snapshot_of history.made.setup) t.own

-- ---- notices that were asked for

pub none_more : (count : ℕ) (calls : List machine.Call) → untold (machine.steps_of (asked count calls)) ≡ untold (machine.steps_of calls)
none_more zero calls = refl
none_more (suc count) calls = none_more count calls

-- a sink that stays on its group, or off any
pub stays : (on : Bool) (history : List sinks.Call) → with_leave on on history ≡ history
stays on history = grind arith

pub same_groups : (setup : Setup) (count : ℕ) (calls : List machine.Call) → group_calls setup (asked count calls) ≡ group_calls setup calls
same_groups setup zero calls = refl
same_groups setup (suc count) calls =
    let all : List machine.Call = asked count calls in
    ap (λ s. with_leave (has_group (snapshot_of setup (machine.steps_of all)).place) (has_group s.place) (group_calls setup all)) (snapshot_goes_on setup notified (machine.steps_of all))
    ∙ stays (has_group (snapshot_of setup (machine.steps_of all)).place) (group_calls setup all) ∙ same_groups setup count calls

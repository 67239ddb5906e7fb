-- The receivers of the sinks of a scenario in version 2: the calls that each took are the same, where no train was answered
-- `BadGroup 11` (Core 5.2, volume 6 part B, section 4.4.6). Lists of steps and calls have the newest first; where a list is
-- called `own` its steps are those of one source.
use Rattle.scenario_laws.proofs.Known.Sources.{ℕ, zero, suc, ◌≡◌, ◌==◌, cond, Bool, true, List, [], ◌∷◌, Option, None, Some, refl, ◌∙◌, ap, arith, ap₂, eqb-true, with_step, Settings, Train, outcome_by, airs_of, Step, Source, made_of, named_by, follows, follows_by, big_sync_of, received_by, source_by, train_by, snapshot_in, heard_on_air, sink_calls, source_after, source_of, ticked_by, with_sink_call, calls_made, source_at, Call as SinkCall, LinkCall as Call, moved, sourced, AreQuietCalls, HearsNear, brings_same, its_snapshot, made_with_horizon, at_second, over_same, same, seconds}
use Rattle.scenario_laws.proofs.Versions.Lived.{AreCalm, AreWider, IsCalm, IsWider, QuietHistory, after_same, is_quiet, history_same, made_wider, quiet_history, source_same}

-- ---- trains

outcome_wider : (made other : Settings) (calls : List Call) (train : Train) → IsWider made other → AreQuietCalls made.setup calls
    → HearsNear made calls (Some train)
    → outcome_by other.setup (snapshot_in other calls) train ≡ outcome_by made.setup (snapshot_in made calls) train
outcome_wider made other calls train wider quiet near = cc (wider.is, brings_same wider.horizon made calls train (is_quiet made other calls wider quiet) near)

-- each train that is heard so isn't answered `BadGroup 11`
abbrev pub HeardNear : Option Settings → List Call → Option Train → Type 0
HeardNear made calls train = (sink : Settings) → made ≡ Some sink → HearsNear sink calls train

follows_same : (source : Source) (train : Option Train) (made other : Option Settings) (calls : List Call) → AreWider made other
    → QuietHistory made calls → HeardNear made calls train → follows_by source train other calls ≡ follows_by source train made calls
follows_same source None made other calls wider quiet near = refl
follows_same source (Some train) None None calls wider quiet near = refl
follows_same source (Some train) (Some made) (Some other) calls wider quiet near =
    ap follows (outcome_wider made other calls train wider quiet (near made refl))
follows_same source train made other calls wider quiet near = search

big_sync_same : (horizon : ℕ) (made : Settings) (calls : List Call) (train : Option Train)
    → (wider : IsWider made (made_with_horizon horizon made)) → AreQuietCalls made.setup calls → HearsNear made calls train
    → big_sync_of (made_with_horizon horizon made) (snapshot_in (made_with_horizon horizon made) calls) train ≡ big_sync_of made (snapshot_in made calls) train
big_sync_same horizon made calls None wider quiet near = refl
big_sync_same horizon made calls (Some train) wider quiet near = cc (outcome_wider made (made_with_horizon horizon made) calls train wider quiet near)

received_same : (source : Source) (step : Step) (made other : Option Settings) (before after : List Call) (calls : List SinkCall)
    → AreWider made other → QuietHistory made before → QuietHistory made after → HeardNear made before (train_by source step)
    → received_by source step other before after calls ≡ received_by source step made before after calls
received_same source this None None before after calls wider quiet later near = refl
received_same source this (Some made) (Some other) before after calls wider quiet later near =
    let it : Settings = made_with_horizon wider.horizon made in
    ap (λ sink. received_by source this (Some sink) before after calls) wider.is
    ∙ ap (λ big_sync. with_step big_sync (snapshot_in it before) (snapshot_in it after) calls)
    (big_sync_same wider.horizon made before (train_by source this) (record { horizon = wider.horizon; within = wider.within; is = refl }) quiet
    (near made refl)) ∙ ap₂ (λ one two. with_step (big_sync_of made (snapshot_in made before) (train_by source this)) one two calls)
    (its_snapshot wider.horizon made before (is_quiet made other before wider quiet))
    (its_snapshot wider.horizon made after (is_quiet made other after wider later))
received_same source this made other before after calls wider quiet later near = search

-- ---- the source of a sink

choose_same : {A : Type 0} (b : Bool) (one two here there : A) → (b ≡ true → two ≡ one) → there ≡ here → cond b two there ≡ cond b one here
choose_same b one two here there same others = grind (arith, same)

its_source : (n : ℕ) (step : Step) (earlier : List Step) (source others : Option ℕ) → AreCalm earlier
    → HeardNear (made_of n earlier) (calls_made n earlier) (train_by (source_at earlier) step)
    → others ≡ source → source_by (source_at (seconds earlier)) step (made_of n (seconds earlier)) (calls_made n (seconds earlier)) others
    ≡ source_by (source_at earlier) step (made_of n earlier) (calls_made n earlier) source
its_source n step earlier source others calm near same =
    let other : Option Settings = made_of n (seconds earlier) in
    ap₂ (λ at calls. source_by at step other calls others) (source_same earlier) (history_same n earlier calm)
    ∙ ap₂ (λ b its. cond b (Some (source_at earlier).number) its)
    (search (follows_same, source_at, train_by, made_of, calls_made, made_wider, quiet_history)) same

sourced_same : (n sink : ℕ) (step : Step) (earlier : List Step) (source others : Option ℕ) → named_by step ≡ Some sink → AreCalm earlier
    → IsCalm earlier step → others ≡ source → sourced n step sink (seconds earlier) others ≡ sourced n step sink earlier source
sourced_same n sink step earlier source others names calm is same =
    choose_same (sink == n) (source_by (source_at earlier) step (made_of n earlier) (calls_made n earlier) source)
    (source_by (source_at (seconds earlier)) step (made_of n (seconds earlier)) (calls_made n (seconds earlier)) others) source others
    (λ its. its_source n step earlier source others calm (λ it made. is n it (names ∙ ap Some (eqb-true sink n its)) made) same) same

source_next : (n : ℕ) (step : Step) (earlier : List Step) (source others : Option ℕ) → AreCalm earlier → IsCalm earlier step
    → others ≡ source → source_after n step (seconds earlier) others ≡ source_after n step earlier source
source_next n (Step.Announce sink) earlier source others calm is stays = search (sourced_same)
source_next n (Step.Train sink time ext adv acad) earlier source others calm is stays = search (sourced_same)
source_next n _ earlier source others calm is stays = search (same, stays)

pub source_of_same : (n : ℕ) (made : List Step) → AreCalm made → source_of n (seconds made) ≡ source_of n made
source_of_same n [] calm = refl
source_of_same n (step ∷ earlier) calm =
    at_second (λ one two. source_after n two (seconds earlier) (source_of n (seconds earlier))
    ≡ source_after n one (seconds earlier) (source_of n (seconds earlier))) (λ version. refl) (λ step. refl) step
    ∙ source_next n step earlier (source_of n earlier) (source_of n (seconds earlier)) calm.0 calm.1 (source_of_same n earlier calm.0)

-- ---- what a sink hears

air_same : (own : List Step) (lose count : ℕ) (calls : List SinkCall)
    → heard_on_air airs_of (seconds own) lose count calls ≡ heard_on_air airs_of own lose count calls
air_same own lose zero calls = refl
air_same own lose (suc i) calls = search (air_same own lose i calls, same)

-- ---- its calls

ticked_same : (s n : ℕ) (earlier : List Step) (calls others : List SinkCall) → AreCalm earlier → others ≡ calls
    → ticked_by s n (seconds earlier) others ≡ ticked_by s n earlier calls
ticked_same s n earlier calls others calm stays = search (same, over_same, source_of_same n earlier calm, stays)

its_moves : (n : ℕ) (step : Step) (earlier : List Step) (calls others : List SinkCall) → AreCalm earlier
    → QuietHistory (made_of n earlier) (calls_made n (step ∷ earlier))
    → HeardNear (made_of n earlier) (calls_made n earlier) (train_by (source_at earlier) step) → others ≡ calls
    → received_by (source_at (seconds earlier)) step (made_of n (seconds earlier)) (calls_made n (seconds earlier))
    (calls_made n (step ∷ seconds earlier)) others
    ≡ received_by (source_at earlier) step (made_of n earlier) (calls_made n earlier) (calls_made n (step ∷ earlier)) calls
its_moves n step earlier calls others calm later near same =
    let other : Option Settings = made_of n (seconds earlier) in
    let quiet : QuietHistory (made_of n earlier) (calls_made n earlier) = quiet_history n earlier calm in
    ap₂ (λ source before. received_by source step other before (calls_made n (step ∷ seconds earlier)) others) (source_same earlier)
    (history_same n earlier calm) ∙ ap₂ (received_by (source_at earlier) step other (calls_made n earlier))
    (grind (arith, after_same, made_of, calls_made, seconds, made_wider, history_same)) same
    ∙ received_same (source_at earlier) step (made_of n earlier) other (calls_made n earlier) (calls_made n (step ∷ earlier)) calls (made_wider n earlier)
    quiet later near

moved_same : (n : ℕ) (named : Option ℕ) (step : Step) (earlier : List Step) (calls others : List SinkCall) → named_by step ≡ named
    → AreCalm earlier → IsCalm earlier step → QuietHistory (made_of n earlier) (calls_made n (step ∷ earlier)) → others ≡ calls
    → moved n named step (seconds earlier) others ≡ moved n named step earlier calls
moved_same n None this earlier calls others names calm is later same = same
moved_same n (Some sink) this earlier calls others names calm is later same =
    choose_same (sink == n) (received_by (source_at earlier) this (made_of n earlier) (calls_made n earlier) (calls_made n (this ∷ earlier)) calls)
    (received_by (source_at (seconds earlier)) this (made_of n (seconds earlier)) (calls_made n (seconds earlier))
    (calls_made n (this ∷ seconds earlier)) others) calls others
    (λ its. its_moves n this earlier calls others calm later (λ it made. is n it (names ∙ ap Some (eqb-true sink n its)) made) same) same

call_next : (n : ℕ) (step : Step) (earlier : List Step) (calls others : List SinkCall) → AreCalm earlier → IsCalm earlier step
    → others ≡ calls → with_sink_call airs_of n step (seconds earlier) others ≡ with_sink_call airs_of n step earlier calls
call_next n (Step.Sink sink streams slots mtu) earlier calls others calm is stays = search stays
call_next n (Step.Drop sink) earlier calls others calm is stays = search stays
call_next n (Step.Tuned sink which) earlier calls others calm is stays = search (same, stays)
call_next n (Step.Hear sink back bis subevent) earlier calls others calm is stays = search (same, source_of_same n earlier calm, stays)
call_next n (Step.Air sink lose) earlier calls others calm is stays = search (air_same, same, source_of_same n earlier calm, stays)
call_next n (Step.Inject sink back bis subevent octets) earlier calls others calm is stays =
    search (same, source_of_same n earlier calm, stays)
call_next n Step.Event earlier calls others calm is stays = search (same, over_same, source_of_same n earlier calm, stays)
call_next n Step.Stop earlier calls others calm is stays = search (same, over_same, source_of_same n earlier calm, stays)
call_next n (Step.Terminate reason) earlier calls others calm is stays = search (same, over_same, source_of_same n earlier calm, stays)
call_next n Step.End earlier calls others calm is stays = search (ticked_same, seconds)
call_next n this earlier calls others calm is stays =
    moved_same n (named_by this) this earlier calls others refl calm is (quiet_history n (this ∷ earlier) (calm, is)) stays

pub sink_calls_same : (n : ℕ) (made : List Step) → AreCalm made → sink_calls airs_of n (seconds made) ≡ sink_calls airs_of n made
sink_calls_same n [] calm = refl
sink_calls_same n (step ∷ earlier) calm =
    at_second (λ one two. with_sink_call airs_of n two (seconds earlier) (sink_calls airs_of n (seconds earlier))
    ≡ with_sink_call airs_of n one (seconds earlier) (sink_calls airs_of n (seconds earlier))) (λ version. refl) (λ same. refl) step
    ∙ call_next n step earlier (sink_calls airs_of n earlier) (sink_calls airs_of n (seconds earlier)) calm.0 calm.1
    (sink_calls_same n earlier calm.0)

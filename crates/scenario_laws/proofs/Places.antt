-- The group that the receivers of a sink are on, before a line of the air and after it: the same.
use Rattle.scenario_laws.proofs.Known.Sources.Steps.Prelude.{ℕ, zero, suc, ◌≡◌, cond, Bool, List, Option, refl, arith, Call, hear, Step, Airs, heard_on_air, ticked_if, unless_lost, ◌==◌, true, false, [], ◌∷◌, None, Some, sym, ap, subst, false≢true, none-some, same_Some, with_step, Snapshot, sync_to_group, train_heard, Settings, Train, BigSync, snapshot_goes_on, tune, stepped, has_group, Source, given_train, calls_at, made_of, own_train, big_sync_of, received_by, train_by, snapshot_in, sink_calls, with_sink_call, calls_made, source_at, the_world, place, link_steps_of as steps_of, moved, LinkCall}
use Rattle.delegator_machine.proofs.Citable.{comes_on}

pub same_place : (mine : Bool) (more calls : List Call) → place more ≡ place calls → place (cond mine more calls) ≡ place calls
same_place mine more calls is = grind arith

lost_place : (gone : Bool) (event bis subevent : ℕ) (octets : List ℕ) (calls : List Call) → place (unless_lost gone (hear event bis subevent octets) calls) ≡ place calls
lost_place gone event bis subevent octets calls = grind arith

pub air_place : (airs : Airs) (own : List Step) (lose count : ℕ) (calls : List Call) → place (heard_on_air airs own lose count calls) ≡ place calls
air_place airs own lose zero calls = refl
air_place airs own lose (suc i) calls = search (lost_place, air_place airs own lose i calls)

pub tick_if_place : (mine : Bool) (last_open : Option ℕ) (calls : List Call) → place (ticked_if mine last_open calls) ≡ place calls
tick_if_place mine last_open calls = grind arith

-- ---- where the history of a sink says that it is on no group, its receivers are on none

-- a living sink that is on no group by its history has receivers on none
abbrev pub Nowhere : Option Settings → List LinkCall → List Call → Type 0
Nowhere made lives calls = (m : Settings) → made ≡ Some m → has_group (snapshot_in m lives).place ≡ false → place calls ≡ None

-- ---- a step that synchronizes the sink to a BIG

put_comes : (m : Settings) (big_sync : BigSync) (lives : List LinkCall)
    → has_group (snapshot_in m (stepped (sync_to_group big_sync) ∷ lives)).place ≡ true
put_comes m big_sync lives = ap (λ (s : Snapshot). has_group s.place) (snapshot_goes_on m.setup (sync_to_group big_sync) (steps_of lives))

train_comes : (m : Settings) (train : Train) (lives : List LinkCall) (big_sync : BigSync)
    → big_sync_of m (snapshot_in m lives) (Some train) ≡ Some big_sync
    → has_group (snapshot_in m (stepped (train_heard train) ∷ lives)).place ≡ true
train_comes m train lives big_sync is =
    cc (snapshot_goes_on m.setup (train_heard train) (steps_of lives), comes_on m.setup (snapshot_in m lives) (train_heard train) big_sync is)

-- ---- a line that names the sink

step_off : (given : Option BigSync) (before later : Snapshot) (calls : List Call) → (has_group before.place ≡ false → place calls ≡ None)
    → ((big_sync : BigSync) → given ≡ Some big_sync → has_group later.place ≡ true) → has_group later.place ≡ false → place (with_step given before later calls) ≡ None
step_off given before later calls was comes off = grind (arith, false≢true)

-- a group that the line brings is one that the sink is on then
abbrev Comes : Source → Step → Option Settings → (here there : List LinkCall) → Type 0
Comes source step made here there =
    (m : Settings) → (big_sync : BigSync) → made ≡ Some m → big_sync_of m (snapshot_in m here) (train_by source step) ≡ Some big_sync
    → has_group (snapshot_in m there).place ≡ true

received_off : (source : Source) (step : Step) (made : Option Settings) (here there : List LinkCall) (calls : List Call)
    → Comes source step made here there → Nowhere made here calls → Nowhere made there (received_by source step made here there calls)
received_off source this None here there calls comes before m is off = absurd (none-some m is)
received_off source this (Some made) here there calls comes before m is off =
    step_off (big_sync_of made (snapshot_in made here) (train_by source this)) (snapshot_in made here) (snapshot_in made there) calls (before made refl) (λ big_sync brought. comes made big_sync refl brought)
    (subst (λ (k : Settings). has_group (snapshot_in k there).place ≡ false) (sym (same_Some made m is)) off)

moved_off : (hit : Bool) (source : Source) (step : Step) (made : Option Settings) (here there later : List LinkCall) (calls : List Call)
    → cond hit there here ≡ later
    → Comes source step made here there → Nowhere made here calls → Nowhere made later (cond hit (received_by source step made here later calls) calls)
moved_off true source this made here there later calls is comes before =
    received_off source this made here later calls
    (λ m big_sync made_is brought. subst (λ lives. has_group (snapshot_in m lives).place ≡ true) is (comes m big_sync made_is brought)) before
moved_off false source this made here there later calls is comes before = subst (λ lives. Nowhere made lives calls) is before

-- a line that hands the sink no train
plain_off : (n : ℕ) (named : Option ℕ) (step : Step) (earlier : List Step) (calls : List Call) → train_by (source_at earlier) step ≡ None
    → calls_at the_world n named step earlier (made_of n earlier) (calls_made n earlier) ≡ calls_made n (step ∷ earlier) → Nowhere (made_of n earlier) (calls_made n earlier) calls
    → Nowhere (made_of n earlier) (calls_made n (step ∷ earlier)) (moved n named step earlier calls)
plain_off n named this earlier calls none is before = grind (arith, moved_off, none-some)

-- ---- step by step

gone_off : (gone : Bool) (anew made : Option Settings) (born lives : List LinkCall) (calls : List Call) → Nowhere made lives calls
    → Nowhere (cond gone anew made) (cond gone born lives) (cond gone [] calls)
gone_off gone anew made born lives calls before m is off = grind arith

put_off : (put : Bool) (made : Option Settings) (big_sync : BigSync) (lives : List LinkCall) (on : BigSync) (calls : List Call)
    → Nowhere made lives calls → Nowhere made (cond put (stepped (sync_to_group big_sync) ∷ lives) lives) (cond put (tune on ∷ calls) calls)
put_off put made big_sync lives on calls before m is off = grind (arith, false≢true, put_comes)

hear_off : (named mine : Bool) (made : Option Settings) (lives : List LinkCall) (more calls : List Call) → place more ≡ place calls
    → Nowhere made lives calls → Nowhere made (cond named lives lives) (cond mine more calls)
hear_off named mine made lives more calls same before m is off = grind (arith, same_place)

off_after : (airs : Airs) (n : ℕ) (step : Step) (earlier : List Step) (calls : List Call) → Nowhere (made_of n earlier) (calls_made n earlier) calls
    → Nowhere (made_of n (step ∷ earlier)) (calls_made n (step ∷ earlier)) (with_sink_call airs n step earlier calls)
off_after airs n (Step.Tuned sink which) earlier calls before = search (put_off)
off_after airs n (Step.Announce sink) earlier calls before =
    moved_off (sink == n) (source_at earlier) (Step.Announce sink) (made_of n earlier) (calls_made n earlier)
    (stepped (train_heard (own_train (source_at earlier))) ∷ calls_made n earlier) _ calls refl
    (λ m big_sync made_is brought. train_comes m (own_train (source_at earlier)) (calls_made n earlier) big_sync brought) before
off_after airs n (Step.Train sink time ext adv acad) earlier calls before =
    moved_off (sink == n) (source_at earlier) (Step.Train sink time ext adv acad) (made_of n earlier) (calls_made n earlier)
    (stepped (train_heard (given_train (source_at earlier) time ext adv acad)) ∷ calls_made n earlier) _ calls refl
    (λ m big_sync made_is brought. train_comes m (given_train (source_at earlier) time ext adv acad) (calls_made n earlier) big_sync brought) before
off_after airs n this earlier calls before = search (gone_off, hear_off, air_place, tick_if_place, plain_off)

pub nowhere : (airs : Airs) (n : ℕ) (made : List Step) → Nowhere (made_of n made) (calls_made n made) (sink_calls airs n made)
nowhere airs n [] = λ m is off. absurd (none-some m is)
nowhere airs n (step ∷ earlier) = off_after airs n step earlier (sink_calls airs n earlier) (nowhere airs n earlier)

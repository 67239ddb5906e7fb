-- The steps of a scenario in version 2: `scenario 2` stands for `scenario`. What the steps say that isn't said of the version
-- stays. Lists of steps have the newest first.
use Rattle.scenario_laws.proofs.Known.Sources.Steps.Prelude.{ℕ, ◌≡◌, ◌⊎◌, ◌≤◌, cond, Bool, true, List, [], ◌∷◌, Option, refl, sym, ◌∙◌, ap, inl, arith, unwrap_or, option_or, Step, horizon_in, version_given, base_lines, with_base_line, cipher_given, cipher_of, group_given, group_of, ident_of, identity_given, is_ahead_in, phase_given, source_calls, start_given, start_of, with_source_call, Stage, unbegun, running, chosen_given, is_common, is_of_source, is_over, is_source_line, is_over_at, is_unbegun_at, last_given, sinks_made, sinks_made_by, stage_of, steps_of_source, version_at, version_of, ◌||◌, list_any, gives_on, had_relay, has_relay, makes_relay, relay_given, relay_of, relays_to, ap₂, range_with_len, air_after, airs_of, stale_of, Setup, setup_of, stale_in, last_given_in as last_of, sink_horizon_of as horizon_of, over, SourceCall as Call, event as perform}
use Rattle.scenario_laws.proofs.Wholes.{horizon_greatest}

abbrev pub second : Step → Step
second (Step.Scenario version) = Step.Scenario 2
second step = step

abbrev pub seconds : List Step → List Step
seconds [] = []
seconds (step ∷ earlier) = second step ∷ seconds earlier

-- what holds of `scenario` and `scenario 2`, and of each other step and itself, holds of each step and the one that stands for it
pub at_second : (P : Step → Step → Type 0) → ((version : ℕ) → P (Step.Scenario version) (Step.Scenario 2)) → ((step : Step) → P step step)
    → (step : Step) → P step (second step)
at_second x1 first others this = grind arith

-- ---- what is gathered step by step

pub gathered : {A : Type 0} (f : List Step → A) (with : Step → A → A)
    → ((step : Step) (earlier : List Step) → f (step ∷ earlier) ≡ with step (f earlier))
    → ((version : ℕ) (a : A) → with (Step.Scenario 2) a ≡ with (Step.Scenario version) a) → (made : List Step) → f (seconds made) ≡ f made
gathered f with next first [] = refl
gathered f with next first (step ∷ earlier) =
    next (second step) (seconds earlier) ∙ ap (with (second step)) (gathered f with next first earlier)
    ∙ at_second (λ one other. with other (f earlier) ≡ with one (f earlier)) (λ version. first version (f earlier)) (λ same. refl) step
    ∙ sym (next step earlier)

pub given_same : {A : Type 0} (gives : Step → Option A) → ((version : ℕ) → gives (Step.Scenario 2) ≡ gives (Step.Scenario version))
    → (made : List Step) → last_given gives (seconds made) ≡ last_given gives made
given_same gives first made =
    cc (gathered (last_given gives) (λ step given. option_or (gives step) given) (λ step earlier. refl) (λ version given. ap (λ one. option_or one given) (first version)) made)

-- ---- what the steps of a source say, and which source a line means

pub group_same : (own : List Step) → group_of (seconds own) ≡ group_of own
group_same = given_same group_given (λ version. refl)

pub start_same : (own : List Step) → start_of (seconds own) ≡ start_of own
start_same = given_same start_given (λ version. refl)

pub ident_same : (own : List Step) → ident_of (seconds own) ≡ ident_of own
ident_same = given_same identity_given (λ version. refl)

pub cipher_same : (own : List Step) → cipher_of (seconds own) ≡ cipher_of own
cipher_same = given_same cipher_given (λ version. refl)

pub phase_same : (own : List Step) → last_given phase_given (seconds own) ≡ last_given phase_given own
phase_same = given_same phase_given (λ version. refl)

pub base_same : (own : List Step) → base_lines (seconds own) ≡ base_lines own
base_same = gathered base_lines with_base_line (λ step earlier. refl) (λ version lines. refl)

pub calls_same : (own : List Step) → source_calls (seconds own) ≡ source_calls own
calls_same = gathered source_calls with_source_call (λ step earlier. refl) (λ version calls. refl)

pub sinks_same : (made : List Step) → sinks_made (seconds made) ≡ sinks_made made
sinks_same = gathered sinks_made sinks_made_by (λ step earlier. refl) (λ version count. refl)

pub chosen_same : (made : List Step) → last_given chosen_given (seconds made) ≡ last_given chosen_given made
chosen_same = given_same chosen_given (λ version. refl)

its_same : (s : ℕ) (earlier : List Step) (step : Step) → is_of_source s (seconds earlier) (second step) ≡ is_of_source s earlier step
its_same s earlier this = grind (arith, at_second, is_of_source, is_common, is_source_line, unwrap_or, chosen_same)

seconds_if : (is_its : Bool) (step : Step) (own : List Step)
    → cond is_its (second step ∷ seconds own) (seconds own) ≡ seconds (cond is_its (step ∷ own) own)
seconds_if is_its this own = grind arith

pub own_same : (s : ℕ) (made : List Step) → steps_of_source s (seconds made) ≡ seconds (steps_of_source s made)
own_same s [] = refl
own_same s (step ∷ earlier) =
    cc (own_same s earlier, its_same s earlier step, seconds_if (is_of_source s earlier step) step (steps_of_source s earlier))

-- what says nothing of the version
pub ruleset same = (
  group_same,
  start_same,
  ident_same,
  cipher_same,
  phase_same,
  base_same,
  calls_same,
  sinks_same,
  chosen_same,
  own_same,
)

-- ---- the version

-- the version is the same, or 2
abbrev pub IsLater : ℕ → ℕ → Type 0
IsLater version later = (later ≡ version) ⊎ (later ≡ 2)

-- the same of where a scenario stands
abbrev pub StandsLater : Stage → Stage → Type 0
StandsLater unbegun unbegun = Unit {0}
StandsLater (running version) (running later) = IsLater version later
StandsLater (over version) (over later) = IsLater version later
StandsLater _ _ = ⊥

version_later : (stage later : Stage) → StandsLater stage later → IsLater (version_at stage) (version_at later)
version_later unbegun unbegun is = inl refl
version_later (running version) (running later) is = is
version_later (over version) (over later) is = is
version_later _ _ is = search

over_later : (stage later : Stage) → StandsLater stage later → is_over_at later ≡ is_over_at stage
over_later unbegun unbegun is = refl
over_later (running version) (running later) is = refl
over_later (over version) (over later) is = refl
over_later _ _ is = search

unbegun_later : (stage later : Stage) → StandsLater stage later → is_unbegun_at later ≡ is_unbegun_at stage
unbegun_later unbegun unbegun is = refl
unbegun_later (running version) (running later) is = refl
unbegun_later (over version) (over later) is = refl
unbegun_later _ _ is = search

stands_later : (made : List Step) → StandsLater (stage_of made) (stage_of (seconds made))
stands_later [] = tt
stands_later (this ∷ earlier) = grind (arith, version_later, (stands_later earlier))

pub is_later : (made : List Step) → IsLater (version_of made) (version_of (seconds made))
is_later made = version_later (stage_of made) (stage_of (seconds made)) (stands_later made)

pub over_same : (made : List Step) → is_over (seconds made) ≡ is_over made
over_same made = over_later (stage_of made) (stage_of (seconds made)) (stands_later made)

pub unbegun_same : (made : List Step) → is_unbegun_at (stage_of (seconds made)) ≡ is_unbegun_at (stage_of made)
unbegun_same made = unbegun_later (stage_of made) (stage_of (seconds made)) (stands_later made)

-- ---- what a version bounds

pub horizon_grows : (version later : ℕ) → IsLater version later → horizon_in version ≤ horizon_in later
horizon_grows version later h2 = grind (arith, horizon_greatest)

pub ahead_stays : (version later : ℕ) → IsLater version later → is_ahead_in version ≡ true → is_ahead_in later ≡ true
ahead_stays version later x3 is = grind (arith, is_ahead_in)

-- a sink's version is that of its scenario
version_same : (made : List Step) → unwrap_or (last_of version_given made) 1 ≡ version_of made
version_same [] = refl
version_same (Step.Scenario version ∷ earlier) = refl
version_same (this ∷ earlier) = search (version_same earlier)

pub sink_horizon : (made : List Step) → horizon_of made ≡ horizon_in (version_of made)
sink_horizon made = ap horizon_in (version_same made)

pub sink_grows : (made : List Step) → horizon_of made ≤ horizon_of (seconds made)
sink_grows made = search (horizon_grows, is_later, sink_horizon)

-- ---- what a `relay` line is refused for in version 2: what it is refused for in version 1. Lists of steps have the newest first; where a
-- list is called `own` its steps are those of one source.

-- ---- relays looked back for

pub relay_same : (n : ℕ) (made : List Step) → relay_of n (seconds made) ≡ relay_of n made
relay_same n made = search (given_same (relay_given n) (λ version. refl) made)

pub had_same : (bis : ℕ) (made : List Step) → had_relay bis (seconds made) ≡ had_relay bis made
had_same bis made = gathered (had_relay bis) (λ step had. relays_to bis step || had) (λ step earlier. refl) (λ version had. refl) made

pub has_relay_same : (made : List Step) → has_relay (seconds made) ≡ has_relay made
has_relay_same made = gathered has_relay (λ step has. makes_relay step || has) (λ step earlier. refl) (λ version has. refl) made

pub gives_same : (bis : ℕ) (own : List Step) → list_any (gives_on bis) (seconds own) ≡ list_any (gives_on bis) own
gives_same bis own =
    gathered (list_any (gives_on bis)) (λ step gives. gives_on bis step || gives) (λ step earlier. refl) (λ version gives. refl) own

-- what relays say
pub ruleset relays_same = (relay_same, had_same, has_relay_same, gives_same)

-- ---- a source of a scenario in version 2: what it sends is the same (Core 5.2, volume 6 part B, section 4.4.6, and part G, section
-- 2). Where a list is called `own` its steps are those of one source, the newest first.

-- ---- what fixes it

-- what fixes a source, but for whether times may be ahead
abbrev pub with_ahead : Bool → Setup → Setup
with_ahead ahead setup = record setup { ahead = ahead }

-- times may be ahead in the version of these steps
abbrev pub is_ahead : List Step → Bool
is_ahead own = is_ahead_in (version_of own)

pub setup_same : (own : List Step) → setup_of (seconds own) ≡ with_ahead (is_ahead (seconds own)) (setup_of own)
setup_same own = search same

-- what is said of what fixes the source and of its calls, whether times may be ahead or not
pub of_calls : {A : Type 0} (f : Setup → List Call → A) → ((ahead : Bool) (setup : Setup) (calls : List Call)
    → f (with_ahead ahead setup) calls ≡ f setup calls) → (own : List Step)
    → f (setup_of (seconds own)) (source_calls (seconds own)) ≡ f (setup_of own) (source_calls own)
of_calls f stays own = cc (ap₂ f (setup_same own) (calls_same own), stays (is_ahead (seconds own)) (setup_of own) (source_calls own))

-- ---- its airs

pub airs_same : (ahead : Bool) (setup : Setup) (calls : List Call) → airs_of (with_ahead ahead setup) calls ≡ airs_of setup calls
airs_same ahead setup calls = grind (arith, air_after, range_with_len)

pub stale_same : (own : List Step) → stale_in airs_of (seconds own) ≡ stale_in airs_of own
stale_same own =
    cc (of_calls (λ setup calls. stale_of setup calls (airs_of setup (perform ∷ calls))) (λ ahead setup calls. ap (stale_of setup calls) (airs_same ahead setup (perform ∷ calls))) own)

-- A step by the room that it belongs to.
use Rattle.replay_steps.proofs.Prelude.{◌≡◌, ℕ, List, [], ◌∷◌, true, false, unwrap_or, refl, sym, ◌∙◌, ap, subst, Option, None, Result, Ok, Err, option_or, airs_of, Settings, Refusal, Stop, Step, Sink, Tuned, Stage, chosen_of, chosen_steps, running, stage_after, stage_of, version_at, group_of, no_group, takes_units, box_of, big_sync_on, version_given, horizon_in, sinks_made, is_misplaced, phase_refusal, relayed_or, sink_refusal, fault_of, SaysNothing, sink_says, sources_stay, tuned_says, Histories, with_sink, with_tuning, SinksStand, Machine, RelaysStand, Stands, histories_of, relay_histories, Quiet, phase_line, stage_in, arith, not_made, not_tuned, ◌||◌, Bool, option_map, is_none, list_all, list_any, range_with_len, Drop, Relay, gives_on, is_relayed, Route, had_relay, relay_given, relay_of, relays_to, steps_of_source, Relays, lent, UnitLine}
use Rattle.delegator_history.specs.Announced.{numbers_alone}
use Rattle.delegator_history.specs.LastGiven.{last_given}
use Rattle.sync_reference.specs.BigSync.{BigSync}
use Rattle.scenario_sources.specs.Answers as sources
use Rattle.scenario_sinks.specs.Refusals as sinks
use Rattle.scenario_sinks.specs.RelayHistories as relays

-- the relays by another past that is the same
pub relays_as : (one other : relays.Histories) (held : Relays) → ((n : ℕ) → one.routes n ≡ other.routes n) → ((bis : ℕ) → one.relayed bis ≡ other.relayed bis)
    → ((bis : ℕ) → one.given bis ≡ other.given bis) → RelaysStand one held → RelaysStand other held
relays_as one other held routes relayed given stands = grind (arith, list_all, is_none, range_with_len)

-- the step says something of relays, or of what source 1 is given
abbrev pub minds_relays : Step → Bool
minds_relays (Relay sink bis to) = true
minds_relays (Drop sink) = true
minds_relays (UnitLine bis time octets) = true
minds_relays _ = false

-- what a step says that doesn't
pub record Beside (made : Step) : Type 0 where
  pub routes : (n : ℕ) → relay_given n made ≡ None
  pub relays : (bis : ℕ) → relays_to bis made ≡ false
  pub gives : (bis : ℕ) → gives_on bis made ≡ false
  pub none : (steps : List Step) → is_relayed steps made ≡ false

pub beside : (made : Step) → minds_relays made ≡ false → Beside made
beside made minds = grind arith

routes_stay : (n : ℕ) (steps : List Step) (made : Step) → relay_given n made ≡ None → relay_of n steps ≡ relay_of n (made ∷ steps)
routes_stay n steps made none = grind arith

had_stays : (bis : ℕ) (steps : List Step) (made : Step) → relays_to bis made ≡ false → had_relay bis steps ≡ had_relay bis (made ∷ steps)
had_stays bis steps made none = ap (λ hit. hit || had_relay bis steps) (sym none)

given_stays : (bis : ℕ) (steps : List Step) (made : Step) → gives_on bis made ≡ false
    → list_any (gives_on bis) (steps_of_source 1 steps) ≡ list_any (gives_on bis) (steps_of_source 1 (made ∷ steps))
given_stays bis steps made none = grind arith

pub relays_stay : (steps : List Step) (made : Step) (held : Relays) → minds_relays made ≡ false → RelaysStand (relay_histories steps) held
    → RelaysStand (relay_histories (made ∷ steps)) held
relays_stay steps made held minds stands =
    let says = beside made minds in
    relays_as (relay_histories steps) (relay_histories (made ∷ steps)) held
    (λ n. ap (λ (route : Option Route). option_map lent route) (routes_stay n steps made (says.routes n)))
    (λ bis. had_stays bis steps made (says.relays bis)) (λ bis. given_stays bis steps made (says.gives bis)) stands

pub or_none : (a : Option Refusal) → option_or a None ≡ a
or_none a = grind arith

-- the step may follow the first one and goes on, and the sinks refuse nothing of it
pub record GoesOn (made : Step) : Type 0 where
  pub stage : (stage : Stage) → stage_after made stage ≡ stage
  pub placed : (version : ℕ) → is_misplaced (running version) made ≡ false
  pub refusal : (boxes : ℕ) (steps : List Step) → sink_refusal boxes steps made ≡ None

pub source_fault : (boxes version : ℕ) (steps : List Step) (made : Step) → GoesOn made → stage_of steps ≡ running version
    → phase_refusal airs_of boxes steps made ≡ fault_of version steps made
source_fault boxes version steps made on e = grind arith

-- a line is refused for what its step is refused for, where it gives no unit
pub as_step : (boxes : ℕ) (steps : List Step) (made : Step) → minds_relays made ≡ false → phase_line airs_of boxes steps made ≡ phase_refusal airs_of boxes steps made
as_step boxes steps made minds = ap (λ relayed. relayed_or relayed (phase_refusal airs_of boxes steps made)) ((beside made minds).none steps)

-- the relays that stood stand by the step too
pub relays_kept : (steps : List Step) (made : Step) (old new : Machine) → minds_relays made ≡ false → Stands steps old → new.relays ≡ old.relays
    → RelaysStand (relay_histories (made ∷ steps)) new.relays
relays_kept steps made old new minds stands held = grind (arith, relays_stay steps made old.relays minds stands.relays)

pub sinks_stand : (steps : List Step) (old new : Machine) → Stands steps old → new.stage ≡ old.stage → new.sources ≡ old.sources → new.relays ≡ old.relays
    → SinksStand (histories_of steps) new.sinks → Stands steps new
sinks_stand steps old new stands stage same held sinks = grind arith

-- a step that says nothing of a source, by what it made of the sinks
pub brought : (steps : List Step) (made : Step) (old new : Machine) → Stands steps old → SaysNothing made → stage_of (made ∷ steps) ≡ stage_of steps
    → new.stage ≡ old.stage → new.sources ≡ old.sources → minds_relays made ≡ false → new.relays ≡ old.relays
    → SinksStand (histories_of (made ∷ steps)) new.sinks → Stands (made ∷ steps) new
brought steps made old new stands nothing on stage same minds held heard = record {
  stage = ap stage_in stage ∙ stands.stage ∙ sym on;
  sources = rw same (sources_stay made steps old.sources nothing stands.sources);
  sinks = heard;
  relays = relays_kept steps made old new minds stands held;
}

-- ---- a step of the sources alone

pub sources_refuse : (boxes version : ℕ) (steps : List Step) (made : Step) (old new : Machine) (stop : Stop)
    → phase_line airs_of boxes steps made ≡ fault_of version steps made
    → Stands steps old → new.stage ≡ old.stage → new.sinks ≡ old.sinks → new.relays ≡ old.relays
    → sources.Answers version steps made new.sources (Err stop) → Quiet boxes steps made new (Err stop)
sources_refuse boxes version steps made old new stop is stands stage same held a = grind arith

pub sources_meet : (boxes version : ℕ) (steps : List Step) (made : Step) (old new : Machine) (r : Result (Unit {0}) Stop) → GoesOn made
    → histories_of (made ∷ steps) ≡ histories_of steps → Stands steps old → stage_of steps ≡ running version → new.stage ≡ old.stage → new.sinks ≡ old.sinks
    → minds_relays made ≡ false → new.relays ≡ old.relays → sources.Answers version steps made new.sources r → Quiet boxes steps made new r
sources_meet boxes version steps made old new (Ok x) on past stands e stage same minds held a = (
  as_step boxes steps made minds ∙ source_fault boxes version steps made on e ∙ a.0,
  record {
    stage = ap stage_in stage ∙ stands.stage ∙ sym (on.stage (stage_of steps));
    sources = a.1;
    sinks = subst (λ (p : Histories). SinksStand p new.sinks) (sym past) (rw same stands.sinks);
    relays = relays_kept steps made old new minds stands held;
  },
)
sources_meet boxes version steps made old new (Err stop) on past stands e stage same minds held a =
    sources_refuse boxes version steps made old new stop
    (as_step boxes steps made minds ∙ source_fault boxes version steps made on e) stands stage same held a

-- ---- a step of the sinks alone

pub sinks_meet : (boxes : ℕ) (steps : List Step) (made : Step) (fault : Option Refusal) (next : Histories) (old new : Machine) (r : Result (Unit {0}) Stop) → Stands steps old
    → phase_refusal airs_of boxes steps made ≡ fault → SaysNothing made → stage_of (made ∷ steps) ≡ stage_of steps → histories_of (made ∷ steps) ≡ next
    → new.stage ≡ old.stage → new.sources ≡ old.sources → minds_relays made ≡ false → new.relays ≡ old.relays
    → sinks.Tunes fault (histories_of steps) next new.sinks r → Quiet boxes steps made new r
sinks_meet boxes steps made fault next old new (Ok x) stands is nothing on past stage same minds held a =
    (as_step boxes steps made minds ∙ is ∙ a.0, brought steps made old new stands nothing on stage same minds held (rw past a.1))
sinks_meet boxes steps made fault next old new (Err stop) stands is nothing on past stage same minds held a =
    grind (arith, as_step, sinks_stand)

-- ---- sink

-- a scenario has one version, whether its first step says it or where it stands
version_by : (step : Step) (earlier : List Step) → unwrap_or (last_given version_given earlier) 1 ≡ version_at (stage_of earlier)
    → unwrap_or (last_given version_given (step ∷ earlier)) 1 ≡ version_at (stage_of (step ∷ earlier))
version_by other earlier same = grind arith

version_said : (steps : List Step) → unwrap_or (last_given version_given steps) 1 ≡ version_at (stage_of steps)
version_said [] = refl
version_said (step ∷ earlier) = version_by step earlier (version_said earlier)

-- what the line says, in a scenario whose groups have at most this horizon
abbrev made_with : (streams slots horizon : ℕ) → Option ℕ → Settings
made_with streams slots horizon mtu = record { setup = record { streams = streams; slots = slots; horizon = horizon }; mtu = mtu }

pub make_meets : (boxes version n streams slots horizon : ℕ) (mtu : Option ℕ) (steps : List Step) (old new : Machine) (r : Result (Unit {0}) Stop) → Stands steps old
    → stage_of steps ≡ running version → horizon ≡ horizon_in version → new.stage ≡ old.stage → new.sources ≡ old.sources → new.relays ≡ old.relays
    → sinks.Answers (not_made (box_of n steps) (sinks_made steps) boxes) (histories_of steps) (with_sink n (made_with streams slots horizon mtu) (histories_of steps)) new.sinks r
    → Quiet boxes steps (Sink n streams slots mtu) new r
make_meets boxes version n streams slots horizon mtu steps old new r stands e is stage same held a =
    let fault : Option Refusal = not_made (box_of n steps) (sinks_made steps) boxes in
    let next : Histories = with_sink n (made_with streams slots horizon mtu) (histories_of steps) in
    sinks_meet boxes steps (Sink n streams slots mtu) fault next old new r stands (rw e (or_none fault)) (sink_says n streams slots mtu) refl
    (ap (λ h. with_sink n (made_with streams slots h mtu) (histories_of steps))
    (ap horizon_in (version_said steps ∙ ap version_at e) ∙ sym is)) stage same refl held (grind arith)

-- ---- tuned

-- a `group` line says the numbers of a group and nothing more
plain_by : (step : Step) (own : List Step) → numbers_alone (unwrap_or (group_of own) no_group).info ≡ (unwrap_or (group_of own) no_group).info
    → numbers_alone (unwrap_or (group_of (step ∷ own)) no_group).info ≡ (unwrap_or (group_of (step ∷ own)) no_group).info
plain_by other own same = grind arith

plain_in : (own : List Step) → numbers_alone (unwrap_or (group_of own) no_group).info ≡ (unwrap_or (group_of own) no_group).info
plain_in [] = refl
plain_in (step ∷ own) = plain_by step own (plain_in own)

pub tuned_meets : (boxes version n source which : ℕ) (steps : List Step) (tuning : BigSync) (old new : Machine) (r : Result (Unit {0}) Stop) → Stands steps old
    → stage_of steps ≡ running version → takes_units (chosen_steps steps) ≡ true → source ≡ chosen_of steps → tuning ≡ big_sync_on (chosen_steps steps) which
    → new.stage ≡ old.stage → new.sources ≡ old.sources → new.relays ≡ old.relays
    → sinks.Tunes (not_tuned (box_of n steps) tuning.info.num_bis tuning.which) (histories_of steps) (with_tuning n source tuning (histories_of steps)) new.sinks r
    → Quiet boxes steps (Tuned n which) new r
tuned_meets boxes version n source which steps tuning old new r stands e going chosen is stage same held a =
    grind (arith, or_none, sinks_meet, tuned_says, plain_in)

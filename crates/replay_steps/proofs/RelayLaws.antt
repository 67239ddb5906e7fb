-- The steps that say something of relays: `relay`, `drop`, and a `unit` line.
use Rattle.replay_steps.proofs.Prelude.{ℕ, ◌≡◌, ◌==◌, ◌&&◌, Bool, false, cond, List, ◌∷◌, refl, Option, None, Ok, airs_of, Call, Settings, Step, Drop, Relay, relay_refusal, had_relay, chosen_of, running, stage_of, Relays, with_relay, RelaysStand, fault_of, named_says, sources_stay, Machine, Stands, relay_histories, Quiet, phase_line, arith, UnitLine}
use Rattle.sink_history.specs.Calls as links
use Rattle.sink_history.specs.History.{Source}
use Rattle.sink_history.specs.Moves.{received_by}
use Rattle.scenario_sinks.specs.RelayHistories.{without}
use Rattle.replay_steps.proofs.Stepping.{relays_as}

-- ---- what the relays are then

pub dropped_relays : (n : ℕ) (steps : List Step) (held : Relays) → RelaysStand (without n (relay_histories steps)) held → RelaysStand (relay_histories (Drop n ∷ steps)) held
dropped_relays n steps held stands =
    relays_as (without n (relay_histories steps)) (relay_histories (Drop n ∷ steps)) held (λ m. grind arith) (λ bis. refl)
    (λ bis. refl) stands

-- ---- a `unit` line

-- any other: why the line is refused
pub unit_fault : (boxes version bis : ℕ) (time : Option ℕ) (octets : List ℕ) (steps : List Step) → stage_of steps ≡ running version
    → ((chosen_of steps == 1) && had_relay bis steps) ≡ false
    → phase_line airs_of boxes steps (UnitLine bis time octets) ≡ fault_of version steps (UnitLine bis time octets)
unit_fault boxes version bis time octets steps e free = grind arith

-- ---- why a `relay` line is refused

-- ---- the relay is made

-- the line leaves the sinks
if_same : {A : Type 0} (hit : Bool) (x : A) → x ≡ cond hit x x
if_same hit x = grind arith

calls_stay : (hit : Bool) (source : Source) (n bis to : ℕ) (made : Option Settings) (lives : List links.Call) (calls : List Call)
    → calls ≡ cond hit (received_by source (Relay n bis to) made lives (cond hit lives lives) calls) calls
calls_stay hit source n bis to made lives calls = grind arith

pub relay_meets : (boxes version n bis to : ℕ) (steps : List Step) (old new : Machine) → Stands steps old → stage_of steps ≡ running version
    → relay_refusal steps n bis to ≡ None → new.stage ≡ old.stage → new.sources ≡ old.sources → new.sinks ≡ old.sinks
    → RelaysStand (with_relay n bis to (relay_histories steps)) new.relays → Quiet boxes steps (Relay n bis to) new (Ok tt)
relay_meets boxes version n bis to steps old new stands e none stage same sinks held =
    grind (arith, sources_stay, named_says, if_same, calls_stay, relays_as)

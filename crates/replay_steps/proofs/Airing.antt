-- The PDUs of the air that a sink hears.
use Rattle.replay_steps.proofs.Prelude.{◌≡◌, ℕ, ◌+◌, ◌*◌, ◌<◌, ◌≤◌, ◌++◌, ◌∷◌, Bool, true, false, not, if◌then◌else◌, List, length, Option, None, Some, option_map, Ok, Err, refl, sym, ◌∙◌, ap, subst, arith, le-ltb, option_or, Account, airs_of, Call, heard_line, Refusal, Order, Stop, Refused, OutletFault, Memory, Step, Air, Hear, Inject, chosen_of, chosen_steps, running, stage_of, event_back, is_heard, pdu_in, performed, setup_of, source_calls, air_refusal, no_place, no_sink, phase_refusal, source_refusal, refuse_if, Sinks, SinksStand, stands_same, Machine, OnAir, Reaches, histories_on_air, Stands, histories_of, Quiet, Tells, inl, inr, cases_lt, air_fault, with_heard, SentIs, suc, [], BigInfo, hear_at, heard_on_air, is_lost, position_at, unless_lost, range_with_len, zero, ◌-◌, get_or, div-mul-add, mod-mul-add, map, slice_get, slice_index_or, hear, heard_first, heard_where, Position, LosesFrom, lost_at, unlost}
use Rattle.isoal_base.specs.declared.hearing.Hearing.{Hearing}
use Rattle.scenario_sinks.specs.Hearing.{Hears}
use Rattle.radio_schedule.specs.declared.losses.Grid.{Grid}
use Rattle.replay_steps.proofs.Stepping.{as_step, minds_relays}
use Rattle.std.proofs.lemmas.List.FromFn.{get_or-map-range_with_len, length-map-range_with_len}
use Rattle.std.proofs.lemmas.Option.{slice_get-get_or}

-- what was sent and isn't lost, subevent by subevent
pub unlost_count : (sent : List (List ℕ)) (lost : List Bool) → length (unlost sent lost) ≡ length sent
unlost_count sent lost = length-map-range_with_len (λ s. if slice_index_or lost s false then None else slice_get sent s) 0 (length sent)

unlost_at : (sent : List (List ℕ)) (lost : List Bool) (s : ℕ) → s < length sent
    → get_or (unlost sent lost) s None ≡ (if slice_index_or lost s false then None else slice_get sent s)
unlost_at sent lost s below = get_or-map-range_with_len (λ s. if slice_index_or lost s false then None else slice_get sent s) 0 (length sent) s s None below (omega arith)

pub lost_there : (sent : List (List ℕ)) (lost : List Bool) (s : ℕ) → s < length sent → slice_index_or lost s false ≡ true → slice_get (unlost sent lost) s ≡ Some None
lost_there sent lost s below is =
    slice_get-get_or (unlost sent lost) s None (omega (arith, below, unlost_count sent lost)) ∙ ap (λ o. Some o) (unlost_at sent lost s below ∙ rw is refl)

pub kept_there : (sent : List (List ℕ)) (lost : List Bool) (s : ℕ) (pdu : List ℕ) → s < length sent → slice_index_or lost s false ≡ false → slice_get sent s ≡ Some pdu
    → slice_get (unlost sent lost) s ≡ Some (Some pdu)
kept_there sent lost s pdu below is there =
    slice_get-get_or (unlost sent lost) s None (omega (arith, below, unlost_count sent lost)) ∙ ap (λ o. Some o) (unlost_at sent lost s below ∙ rw (is, there) refl)

-- a PDU of a stream is heard, unless it is lost
one_heard : (event bis s : ℕ) (lost : Bool) (pdu : List ℕ) (calls : List Call)
    → heard_where event bis s (if lost then None else Some pdu) calls ≡ unless_lost lost (hear event bis s pdu) calls
one_heard event bis s true pdu calls = refl
one_heard event bis s false pdu calls = refl

position_in : (info : BigInfo) (k s : ℕ) → s < info.nse → position_at info (k * info.nse + s) ≡ record { bis = k + 1; subevent = s }
position_in info k s below = rw (div-mul-add k info.nse s below, mod-mul-add k info.nse s below) refl

-- what a sink hears of a stream, from 0, of the last event, where of each `lose` PDUs the last one is lost
pub record AreHeard (own : List Step) (lose k : ℕ) (pdus : List (Option (List ℕ))) : Type 0 where
  pub count : length pdus ≡ (setup_of own).info.nse
  pub each : (s : ℕ) → s < (setup_of own).info.nse → slice_index_or pdus s None
      ≡ (if is_lost (setup_of own).info (event_back own 0) lose (record { bis = k + 1; subevent = s }) then None
      else Some (pdu_in airs_of own (event_back own 0) (k + 1) s))

first_heard : (own : List Step) (lose k : ℕ) (pdus : List (Option (List ℕ))) (calls : List Call) (s : ℕ) → AreHeard own lose k pdus → s ≤ (setup_of own).info.nse
    → heard_first (event_back own 0) (k + 1) pdus s (heard_on_air airs_of own lose (k * (setup_of own).info.nse) calls)
    ≡ heard_on_air airs_of own lose (k * (setup_of own).info.nse + s) calls
first_heard own lose k pdus calls zero are within = ap (λ i. heard_on_air airs_of own lose i calls) (omega arith)
first_heard own lose k pdus calls (suc s) are within =
    let info : BigInfo = (setup_of own).info in
    let event : ℕ = event_back own 0 in
    let here : Position = record { bis = k + 1; subevent = s } in
    let before : List Call = heard_on_air airs_of own lose (k * info.nse + s) calls in
    let next : k * info.nse + suc s ≡ suc (k * info.nse + s) = omega arith in
    ap (heard_where event (k + 1) s (slice_index_or pdus s None)) (first_heard own lose k pdus calls s are (omega (arith, within)))
    ∙ ap (λ pdu. heard_where event (k + 1) s pdu before) (are.each s (omega (arith, within)))
    ∙ one_heard event (k + 1) s (is_lost info event lose here) (pdu_in airs_of own event (k + 1) s) before
    ∙ ap (λ position. unless_lost (is_lost info event lose position) (hear_at airs_of own event position) before) (sym (position_in info k s (omega (arith, within))))
    ∙ ap (λ i. heard_on_air airs_of own lose i calls) (sym next)

-- the number of a PDU, counted over all events, streams and subevents
count_is : (event streams k nse s : ℕ) → event * streams * nse + k * nse + s ≡ (event * streams + (k + 1 - 1)) * nse + s
count_is event streams k nse s = grind arith

-- what a sink hears of what a stream sent
pub are_heard : (own : List Step) (lose k bis event streams subevents : ℕ) (sent : List (List ℕ)) (lost : List Bool)
    → sent ≡ map (pdu_in airs_of own (event_back own 0) bis) (range_with_len 0 (setup_of own).info.nse) → bis ≡ k + 1 → event ≡ event_back own 0
    → streams ≡ (setup_of own).info.num_bis → subevents ≡ (setup_of own).info.nse
    → LosesFrom lose (event * streams * subevents + k * subevents) subevents lost → AreHeard own lose k (unlost sent lost)
are_heard own lose k bis event streams subevents sent lost is b e streams_are subevents_are loses =
    let nse : ℕ = (setup_of own).info.nse in
    let f : ℕ → List ℕ = pdu_in airs_of own (event_back own 0) bis in
    let long : length sent ≡ nse = ap length is ∙ length-map-range_with_len f 0 nse in
    record {
      count = unlost_count sent lost ∙ long;
      each = λ s below.
          let there : slice_get sent s ≡ Some (pdu_in airs_of own (event_back own 0) (k + 1) s) =
          ap (λ list. slice_get list s) is ∙ slice_get-get_or (map f (range_with_len 0 nse)) s [] (omega (arith, below, length-map-range_with_len f 0 nse))
          ∙ ap (λ pdu. Some pdu) (get_or-map-range_with_len f 0 nse s s [] below (omega arith)) ∙ ap (λ x. Some (pdu_in airs_of own (event_back own 0) x s)) b in
          let number : event * streams * subevents + k * subevents + s ≡ (event_back own 0 * (setup_of own).info.num_bis + (k + 1 - 1)) * nse + s =
          rw (e, streams_are, subevents_are) (count_is (event_back own 0) (setup_of own).info.num_bis k nse s) in
          unlost_at sent lost s (omega (arith, below, long))
          ∙ ap (λ (l : Bool). if l then None else slice_get sent s) (loses s (omega (arith, below, subevents_are)) ∙ ap (lost_at lose) number)
          ∙ ap (λ pdu. if is_lost (setup_of own).info (event_back own 0) lose (record { bis = k + 1; subevent = s }) then None else pdu) there;
    }

-- ---- whether a PDU may be handed to a sink

or_prefix : (a b rest : Option Refusal) (reason : Refusal) → option_or a b ≡ Some reason → option_or a (option_or b rest) ≡ Some reason
or_prefix a b rest reason e = grind arith

-- the refusals of a step that brings something to a sink in the place of a PDU
pub record Brings (n : ℕ) (made : Step) : Type 0 where
  pub minds : minds_relays made ≡ false
  pub refusal : (boxes version : ℕ) (steps : List Step) → stage_of steps ≡ running version → phase_refusal airs_of boxes steps made
      ≡ option_or (refuse_if (not (is_heard (chosen_steps steps))) Order) (option_or (no_sink n steps) (option_or (source_refusal airs_of version (chosen_steps steps) made) None))

pub hear_brings : (n back bis subevent : ℕ) → Brings n (Hear n back bis subevent)
hear_brings n back bis subevent = record { minds = refl; refusal = λ boxes version steps e. rw e refl }

pub air_brings : (n lose : ℕ) → Brings n (Air n lose)
air_brings n lose = record { minds = refl; refusal = λ boxes version steps e. rw e refl }

pub inject_brings : (n back bis subevent : ℕ) (octets : List ℕ) → Brings n (Inject n back bis subevent octets)
inject_brings n back bis subevent octets = record { minds = refl; refusal = λ boxes version steps e. rw e refl }

pub reach_fails : (boxes version n : ℕ) (steps : List Step) (made : Step) (new : Machine) (stop : Stop) → Stands steps new → Brings n made → stage_of steps ≡ running version
    → Reaches steps n (Err stop) → Quiet boxes steps made new (Err stop)
reach_fails boxes version n steps made new (Refused reason) stands brings e r = (
  as_step boxes steps made brings.minds ∙ brings.refusal boxes version steps e
      ∙ or_prefix (refuse_if (not (is_heard (chosen_steps steps))) Order) (no_sink n steps) (option_or (source_refusal airs_of version (chosen_steps steps) made) None) reason r,
  stands,
)
reach_fails boxes version n steps made new OutletFault stands brings e r = r
reach_fails boxes version n steps made new Memory stands brings e r = absurd r

-- ---- the sinks after a hearing

-- the same past, where the sinks have their histories by a line that leaves them
if_same : {A : Type 0} (b : Bool) (x : A) → x ≡ (if b then x else x)
if_same b x = grind arith

pub hear_meets : (boxes version n source event back bis subevent : ℕ) (pdu : List ℕ) (steps : List Step) (old new : Machine) (o : Option Hearing) (grid : Grid)
    → Stands steps old → stage_of steps ≡ running version → Reaches steps n (Ok grid)
    → (no_place (chosen_steps steps) back bis subevent ≡ None) × (pdu ≡ pdu_in airs_of (chosen_steps steps) (event_back (chosen_steps steps) back) bis subevent)
    → source ≡ chosen_of steps → event ≡ event_back (chosen_steps steps) back
    → new.stage ≡ old.stage → new.sources ≡ old.sources → new.relays ≡ old.relays → Hears (histories_of steps) n source event bis subevent pdu new.sinks o
    → Quiet boxes steps (Hear n back bis subevent) new (Ok tt)
hear_meets boxes version n source event back bis subevent pdu steps old new o grid stands e r place chosen is stage same held h =
    grind arith

-- ---- inject

pub quiet_tells : (starts : List Account) (steps : List Step) (made : Step) (new : Machine) (text : List ℕ) (stop : Stop) → minds_relays made ≡ false
    → Quiet (length starts) steps made new (Err stop) → Tells starts steps made new text text (Err stop)
quiet_tells starts steps made new text (Refused reason) minds q = (sym (as_step (length starts) steps made minds) ∙ q.0, q.1, refl)
quiet_tells starts steps made new text stop minds q = search (as_step, length)

pub inject_meets : (starts : List Account) (version n source event back bis subevent : ℕ) (octets : List ℕ) (steps : List Step) (old new : Machine) (hearing : Hearing) (grid : Grid)
    (text told : List ℕ) → Stands steps old → stage_of steps ≡ running version → Reaches steps n (Ok grid)
    → no_place (chosen_steps steps) back bis subevent ≡ None → source ≡ chosen_of steps → event ≡ event_back (chosen_steps steps) back
    → new.stage ≡ old.stage → new.sources ≡ old.sources → new.relays ≡ old.relays → Hears (histories_of steps) n source event bis subevent octets new.sinks (Some hearing)
    → told ≡ text ++ heard_line n hearing → Tells starts steps (Inject n back bis subevent octets) new text told (Ok tt)
inject_meets starts version n source event back bis subevent octets steps old new hearing grid text told stands e r place chosen is stage same held h t =
    grind arith

-- ---- air

-- a PDU of each stream and subevent of the group is heard, once an event was performed
pub no_fault : (own : List Step) (bis subevent : ℕ) → bis ≤ (setup_of own).info.num_bis → subevent < (setup_of own).info.nse → 0 < performed own
    → air_fault (setup_of own) (source_calls own) 0 bis subevent ≡ None
no_fault own bis subevent p q r = grind (arith, le-ltb, setup_of, source_calls)

pub air_meets : (boxes version n lose event streams subevents : ℕ) (steps : List Step) (old new : Machine) → Stands steps old → stage_of steps ≡ running version
    → OnAir steps n event streams subevents → new.stage ≡ old.stage → new.sources ≡ old.sources → new.relays ≡ old.relays → SinksStand (histories_of (Air n lose ∷ steps)) new.sinks
    → Quiet boxes steps (Air n lose) new (Ok tt)
air_meets boxes version n lose event streams subevents steps old new stands e on stage same held heard = grind arith

-- a sink heard a stream more
pub stream_heard : (steps : List Step) (n lose k source event bis subevents : ℕ) (pdus : List (Option (List ℕ))) (sinks : Sinks) → AreHeard (chosen_steps steps) lose k pdus
    → source ≡ chosen_of steps → event ≡ event_back (chosen_steps steps) 0 → bis ≡ k + 1 → subevents ≡ (setup_of (chosen_steps steps)).info.nse
    → SinksStand (with_heard n source event bis pdus (histories_on_air steps n lose (k * subevents))) sinks
    → SinksStand (histories_on_air steps n lose ((k + 1) * subevents)) sinks
stream_heard steps n lose k source event bis subevents pdus sinks are chosen is b all stands = grind (arith, stands_same, first_heard)

-- each stream of the group sent its PDUs
pub none_sent : (steps : List Step) (n lose k bis event streams subevents : ℕ) (sinks : Sinks) → OnAir steps n event streams subevents → k < streams → bis ≡ k + 1
    → SentIs (chosen_steps steps) bis None → SinksStand (histories_on_air steps n lose (k * subevents)) sinks
    → SinksStand (histories_on_air steps n lose ((k + 1) * subevents)) sinks
none_sent steps n lose k bis event streams subevents sinks on within b none stands =
    elim (cases_lt 0 subevents) [
      | inl some ↦ absurd (none 0 (ap (option_map air_refusal)
          (no_fault (chosen_steps steps) bis 0 (omega (arith, within, b, on.streams_are)) (omega (arith, some, on.subevents_are)) on.some)))
      | inr nothing ↦
          let P : ℕ → Type 0 = λ i. SinksStand (histories_on_air steps n lose i) sinks in
          let is : subevents ≡ 0 = omega (arith, nothing) in
          subst P (ap (λ x. k * x) is ∙ (let z : k * 0 ≡ (k + 1) * 0 = omega arith in z) ∙ sym (ap (λ x. (k + 1) * x) is)) stands
    ]

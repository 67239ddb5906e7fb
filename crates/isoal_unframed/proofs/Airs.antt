-- The state of a sender against the calls that it took.
use Rattle.isoal_unframed.proofs.Prelude.{ℕ, ◌≡◌, ◌≤◌, ◌+◌, ◌*◌, ◌-◌, min, zero, suc, List, [], ◌∷◌, length, drop, arith, ◌∙◌, ap, refl, drop-append-le, drop-drop, drop_min, length-append, length-drop, BigInfo, per_event_of, per_unit_of, Laid, unframed_air, Call, accept, lay, accepted, begun, lays, IsSender, Sender, StandsFor, after_event, event_pdus, with_unit}
use Rattle.isoal_unframed.proofs.Events.{next_event_is}

-- no more units have their slot than were accepted
pub begun_within : (info : BigInfo) (calls : List Call) → begun info calls ≤ length (accepted calls)
begun_within info [] = omega arith
begun_within info (accept octets ∷ calls) = omega (arith, begun_within info calls, length-append (accepted calls) (octets ∷ []))
begun_within info (lay ∷ calls) = omega arith

pub stands_accept : (info : BigInfo) (calls : List Call) (sender : Sender) (unit : List ℕ) → StandsFor info calls sender → StandsFor info (accept unit ∷ calls) (with_unit sender unit)
stands_accept info calls sender unit stands = grind (arith, drop-append-le, begun_within)

pub stands_lay : (info : BigInfo) (calls : List Call) (sender : Sender) → StandsFor info calls sender → StandsFor info (lay ∷ calls) (after_event sender)
stands_lay info calls sender stands =
    let k = per_event_of info in
    let t = begun info calls in
    let swapped : min (length (accepted calls)) (t + k) ≡ min (t + k) (length (accepted calls)) = omega arith in
    record { group = stands.group; waiting = grind (arith, drop-drop, drop_min) }

pub waiting_is : (info : BigInfo) (calls : List Call) (sender : Sender) → StandsFor info calls sender → length sender.waiting ≡ length (accepted calls) - begun info calls
waiting_is info calls sender stands = ap length stands.waiting ∙ length-drop (begun info calls) (accepted calls)

pub lays_accepted : (calls : List Call) (n : ℕ) → accepted (lays n calls) ≡ accepted calls
lays_accepted calls zero = refl
lays_accepted calls (suc n) = lays_accepted calls n

pub lays_begun : (info : BigInfo) (calls : List Call) (n : ℕ) → begun info (lays n calls) ≡ min (length (accepted calls)) (begun info calls + n * per_event_of info)
lays_begun info calls zero = omega (arith, begun_within info calls)
lays_begun info calls (suc n) =
    let same : accepted (lays n calls) ≡ accepted calls = lays_accepted calls n in
    let more : suc n * per_event_of info ≡ n * per_event_of info + per_event_of info = omega arith in
    rw (same, lays_begun info calls n, more) (omega arith)

pub newest_is : (info : BigInfo) (calls : List Call) (sender : Sender) (event : Laid) → sender.info.bn ≡ per_event_of sender.info * per_unit_of sender.info → StandsFor info calls sender
    → event ≡ record { pdus = event_pdus sender.info sender.waiting; stale = [] }
    → unframed_air info (lay ∷ calls) ≡ record { event = event; begun = begun info (lay ∷ calls) } ∷ unframed_air info calls
newest_is info calls sender event whole stands is = grind (arith, next_event_is)

pub laid_event : (event : Laid) (pdus : List (List ℕ)) → event.pdus ≡ pdus → event.stale ≡ [] → event ≡ record { pdus = pdus; stale = [] }
laid_event event pdus pdus_are none = grind arith

-- no more units wait behind those that are taken
pub sender_left : (info : BigInfo) (n : ℕ) (units left : List (List ℕ)) → IsSender info units → left ≡ drop n units → IsSender info left
sender_left info n units left is rest = grind (arith, length-drop)

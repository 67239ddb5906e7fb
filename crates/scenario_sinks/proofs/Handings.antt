-- Units that go to their boxes one after the other.
use Rattle.std.proofs.Common.{arith}
use Rattle.scenario_sinks.proofs.Prelude.{◌≡◌, ℕ, ◌+◌, ◌<◌, List, [], ◌∷◌, ◌++◌, length, map, take, drop, refl, sym, ◌∙◌, ap, subst, slice_get, slice_set, get_or, Option, Result, Err, Some, suc, append-nil, map-append, take-append-drop, take_more, Account, valid, TookAt, SinkUnit, accounts_after, unit_lines, Stop, Refused, OutletFault, Memory, handed_of, units_for, HandedUnit, Owner, BoxTakes, Hands}
use Rattle.unit_outlets.specs.declared.fault.OutletFault.{OutletFault as Refusal}
use Rattle.unit_outlets.specs.declared.fault.OutletFault.TheVariants.{Memory as NoMemory}
use Rattle.scenario_sinks.specs.State.Gathering.{handed_as}
use Rattle.scenario_sinks.proofs.Citable.{hands_stop, hands_then}

pub set_same : {A : Type 0} (xs : List A) (i : ℕ) (x : A) → slice_get xs i ≡ Some x → slice_set xs i x ≡ xs
set_same (y ∷ xs) (suc i) x h = ap (λ rest. y ∷ rest) (set_same xs i x h)
set_same xs i x h = search

pub box_wanted : (place : ℕ) (octets : List ℕ) (old new : List Account) (result : Result (Unit {0}) Refusal)
    → TookAt place octets old new result → result ≡ Err NoMemory → new ≡ old
box_wanted place octets old new result t e = grind (arith, set_same)

pub hands_valid : (owner : Owner) (bis time : ℕ) (octets text : List ℕ) (old new : List Account) (stop : Stop)
    → BoxTakes owner.outlet octets old new (Err stop) → Hands (units_for owner (valid bis time octets ∷ [])) text text old new (Err stop)
hands_valid owner bis time octets text old new (Refused reason) h = h
hands_valid owner bis time octets text old new OutletFault h = record {
  done = [];
  unit = record { source = owner.source; sink = owner.sink; box = owner.outlet; unit = valid bis time octets };
  rest = [];
  split = refl;
  bis = bis;
  time = time;
  octets = octets;
  is_valid = refl;
  lines = sym (append-nil text);
  box = h;
}
hands_valid owner bis time octets text old new Memory h = record { done = []; rest = units_for owner (valid bis time octets ∷ []); split = refl; boxes = h }

-- a unit with the time that is printed
pub hands_as : (owner : Owner) (bis shown time : ℕ) (told_as octets : Option (List ℕ)) (text told : List ℕ) (old new : List Account) (r : Result (Unit {0}) Stop)
    → shown ≡ time → told_as ≡ octets → Hands (units_for owner (handed_as bis shown told_as ∷ [])) text told old new r
    → Hands (units_for owner (handed_as bis time octets ∷ [])) text told old new r
hands_as owner bis shown time told_as octets text told old new r same is hands = rw (← same, ← is) hands

-- ---- the units of a sink, one after the other

pub units_more : (owner : Owner) (units : List HandedUnit) (i : ℕ) (unit : HandedUnit) → i < length units → unit ≡ get_or units i unit
    → units_for owner (map handed_of (take (i + 1) units)) ≡ units_for owner (map handed_of (take i units)) ++ units_for owner (handed_of unit ∷ [])
units_more owner units i unit within is =
    ap (λ prefix. units_for owner (map handed_of prefix)) (take_more units i unit within ∙ ap (λ last. take i units ++ last ∷ []) (sym is))
    ∙ ap (units_for owner) (map-append handed_of (take i units) (unit ∷ []))
    ∙ map-append (λ handed. record { source = owner.source; sink = owner.sink; box = owner.outlet; unit = handed }) (map handed_of (take i units)) (handed_of unit ∷ [])

pub units_split : (owner : Owner) (units : List HandedUnit) (i : ℕ)
    → units_for owner (map handed_of units) ≡ units_for owner (map handed_of (take i units)) ++ units_for owner (map handed_of (drop i units))
units_split owner units i =
    ap (λ all. units_for owner (map handed_of all)) (sym (take-append-drop i units))
    ∙ ap (units_for owner) (map-append handed_of (take i units) (drop i units))
    ∙ map-append (λ handed. record { source = owner.source; sink = owner.sink; box = owner.outlet; unit = handed }) (map handed_of (take i units)) (map handed_of (drop i units))

-- one more unit was handed
pub hands_more : (owner : Owner) (units : List HandedUnit) (i : ℕ) (unit : HandedUnit) → i < length units → unit ≡ get_or units i unit
    → (text told told2 : List ℕ) (old mid new : List Account) (r : Result (Unit {0}) Stop)
    → told ≡ text ++ unit_lines (units_for owner (map handed_of (take i units)))
    → mid ≡ accounts_after old (units_for owner (map handed_of (take i units)))
    → Hands (units_for owner (handed_of unit ∷ [])) told told2 mid new r
    → Hands (units_for owner (map handed_of (take (i + 1) units))) text told2 old new r
hands_more owner units i unit within is text told told2 old mid new r t a h =
    let P : List SinkUnit → Type 0 = λ us. Hands us text told2 old new r in
    subst P (sym (units_more owner units i unit within is))
    (hands_then (units_for owner (map handed_of (take i units))) (units_for owner (handed_of unit ∷ [])) text told told2 old mid new r t a h)

-- a unit was refused, and none behind it is handed
pub hands_ends : (owner : Owner) (units : List HandedUnit) (i : ℕ) (unit : HandedUnit) → i < length units → unit ≡ get_or units i unit
    → (text told told2 : List ℕ) (old mid new : List Account) (stop : Stop)
    → told ≡ text ++ unit_lines (units_for owner (map handed_of (take i units)))
    → mid ≡ accounts_after old (units_for owner (map handed_of (take i units)))
    → Hands (units_for owner (handed_of unit ∷ [])) told told2 mid new (Err stop)
    → Hands (units_for owner (map handed_of units)) text told2 old new (Err stop)
hands_ends owner units i unit within is text told told2 old mid new stop t a h =
    let P : List SinkUnit → Type 0 = λ us. Hands us text told2 old new (Err stop) in
    subst P (sym (units_split owner units (i + 1)))
    (hands_stop (units_for owner (map handed_of (take (i + 1) units))) (units_for owner (map handed_of (drop (i + 1) units))) text told2 old new stop
    (hands_more owner units i unit within is text told told2 old mid new (Err stop) t a h))

-- How many units of a generated scenario wait: at most one of each stream before those of an event.
use Rattle.replay_generated.proofs.Prelude.{◌≡◌, ℕ, zero, suc, ◌+◌, ◌-◌, ◌<◌, ◌≤◌, Bool, true, false, cond, nat_eq, List, [], ◌∷◌, length, refl, arith, length-append, None, option_map, lt-leb, le-ltb, ne_eqb, accept, lays, accepted, begun, airs_of, waiting_of, Call, give, event, events, given, stream_calls, give_fault, event_fault, unit_of, counter_ends, give_refusal}
use Rattle.isoal_base.specs.Air.{begun_in}
use Rattle.isoal_unframed.specs.Air.{unframed_air}
use Rattle.isoal_unframed.specs.Calls.{Call as StreamCall}
use Rattle.replay_generated.proofs.Standing.{info_said, setup_said}

laid_accepted : (count : ℕ) (calls : List StreamCall) → accepted (lays count calls) ≡ accepted calls
laid_accepted zero calls = refl
laid_accepted (suc count) calls = laid_accepted count calls

given_accepted : (bis : ℕ) (calls : List Call) → given bis calls ≡ accepted (stream_calls info_said bis calls)
given_accepted bis [] = refl
given_accepted bis (give stream time octets ∷ earlier) = grind (arith, given_accepted bis earlier)
given_accepted bis (event ∷ earlier) = grind (arith, given_accepted bis earlier, laid_accepted)

begun_same : (calls : List StreamCall) → begun_in (unframed_air info_said calls) ≡ begun info_said calls
begun_same (accept octets ∷ earlier) = begun_same earlier
begun_same calls = search

-- at most so many units of the stream wait
abbrev pub Near : ℕ → List StreamCall → Type 0
Near most calls = length (accepted calls) ≤ begun info_said calls + most

pub event_near : (b : Bool) (calls : List StreamCall) → Near 2 calls → Near 1 (lays (cond b 2 1) calls)
event_near true calls near = omega arith
event_near false calls near = omega arith

pub accept_near : (octets : List ℕ) (calls : List StreamCall) → Near 1 calls → Near 2 (accept octets ∷ calls)
accept_near octets calls near = omega (arith, length-append (accepted calls) (octets ∷ []))

-- so many events were performed, and at most one unit of each stream waits
pub record Sent (calls : List Call) (x : ℕ) : Type 0 where
  pub performed : events calls ≡ x
  pub first : Near 1 (stream_calls info_said 1 calls)
  pub second : Near 1 (stream_calls info_said 2 calls)

few_wait : (waiting units slots : ℕ) → waiting ≡ units - slots → units ≤ slots + 1 → waiting < 16
few_wait waiting units slots is near = omega arith

-- a unit of one of both streams is taken
pub unit_given : (bis : ℕ) (calls : List Call) (x : ℕ) → 1 ≤ bis → bis ≤ 2 → Near 1 (stream_calls info_said bis calls)
    → option_map give_refusal (give_fault setup_said calls (airs_of setup_said calls) bis None (unit_of x)) ≡ None
unit_given bis calls x least most near = grind (arith, waiting_of, airs_of, setup_said, given_accepted, begun_same, lt-leb, few_wait)

pub some_events : (n : ℕ) → nat_eq (suc n) 0 ≡ false
some_events n = ne_eqb (suc n) 0 (λ none. omega (arith, none))

pub event_given : (calls : List Call) → events calls ≤ 100000 → counter_ends (event_fault setup_said calls) ≡ None
event_given calls most = grind (arith, le-ltb)

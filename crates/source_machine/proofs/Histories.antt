-- What the calls of a source say of its streams in an unframed group.
use Rattle.source_machine.proofs.Prelude.{ℕ, ◌≡◌, ◌≢◌, ◌<◌, ◌≤◌, ◌+◌, zero, suc, Option, List, [], ◌∷◌, ◌++◌, length, arith, ◌∙◌, ap, refl, inl, inr, cases_eq, eq-eqb, ne_eqb, BigInfo, horizon_of, begun_in, event_at, unframed_air, accept, lay, lays, accepted, begun, Call, give, event, events, given, stream_calls, laid_with}
use Rattle.isoal_unframed.specs.Calls.{Call as StreamCall, events as laid_events}
use Rattle.isoal_unframed.proofs.Citable.{lays_accepted}

pub lays_events : (calls : List StreamCall) (n : ℕ) → laid_events (lays n calls) ≡ n + laid_events calls
lays_events calls zero = omega arith
lays_events calls (suc n) = omega (arith, lays_events calls n)

pub given_same : (info : BigInfo) (bis : ℕ) (time : Option ℕ) (octets : List ℕ) (calls : List Call)
    → stream_calls info bis (give bis time octets ∷ calls) ≡ accept octets ∷ stream_calls info bis calls
given_same info bis time octets calls = rw (eq-eqb bis bis refl) refl

pub given_other : (info : BigInfo) (bis stream : ℕ) (time : Option ℕ) (octets : List ℕ) (calls : List Call) → stream ≢ bis
    → stream_calls info bis (give stream time octets ∷ calls) ≡ stream_calls info bis calls
given_other info bis stream time octets calls other = rw (ne_eqb stream bis other) refl

-- the units accepted on a stream
pub accepted_are : (info : BigInfo) (bis : ℕ) (calls : List Call) → accepted (stream_calls info bis calls) ≡ given bis calls
accepted_are info bis [] = refl
accepted_are info bis (give stream time octets ∷ calls) =
    elim (cases_eq stream bis) [
      | inl same ↦ rw (eq-eqb stream bis same) (ap (λ units. units ++ octets ∷ []) (accepted_are info bis calls))
      | inr other ↦ rw (ne_eqb stream bis other) (accepted_are info bis calls)
    ]
accepted_are info bis (event ∷ calls) = lays_accepted (stream_calls info bis calls) (laid_with info calls) ∙ accepted_are info bis calls

-- before the first event nothing is laid
pub none_laid : (info : BigInfo) (bis : ℕ) (calls : List Call) → events calls ≡ 0 → laid_events (stream_calls info bis calls) ≡ 0
none_laid info bis (give stream time octets ∷ calls) none =
    elim (cases_eq stream bis) [
      | inl same ↦ rw (eq-eqb stream bis same) (none_laid info bis calls none)
      | inr other ↦ rw (ne_eqb stream bis other) (none_laid info bis calls none)
    ]
none_laid info bis calls none = search (cases_eq, eq-eqb, ne_eqb)

-- with an event, the H events behind it are laid
pub ahead_laid : (info : BigInfo) (bis : ℕ) (calls : List Call) → 1 ≤ events calls
    → laid_events (stream_calls info bis calls) ≡ events calls + horizon_of info
ahead_laid info bis [] some = absurd (omega (arith, some))
ahead_laid info bis (give stream time octets ∷ calls) some =
    elim (cases_eq stream bis) [
      | inl same ↦ rw (eq-eqb stream bis same) (ahead_laid info bis calls some)
      | inr other ↦ rw (ne_eqb stream bis other) (ahead_laid info bis calls some)
    ]
ahead_laid info bis (event ∷ calls) some =
    lays_events (stream_calls info bis calls) (laid_with info calls) ∙ elim (cases_eq (events calls) 0) [
      | inl first ↦ rw (eq-eqb (events calls) 0 first, none_laid info bis calls first) (omega (arith, first))
      | inr later ↦
          let before : 1 ≤ events calls = omega (arith, later) in
          rw (ne_eqb (events calls) 0 later, ahead_laid info bis calls before) (omega arith)
    ]

pub air_length : (info : BigInfo) (calls : List StreamCall) → length (unframed_air info calls) ≡ laid_events calls
air_length info [] = refl
air_length info (accept octets ∷ calls) = air_length info calls
air_length info (lay ∷ calls) = ap suc (air_length info calls)

-- the newest entry says how many units have begun
pub begun_is : (info : BigInfo) (calls : List StreamCall) → begun_in (unframed_air info calls) ≡ begun info calls
begun_is info (accept octets ∷ calls) = begun_is info calls
begun_is info calls = search

-- what was laid stays whatever is laid behind it
lays_keep : (info : BigInfo) (calls : List StreamCall) (n e : ℕ) → e < laid_events calls
    → event_at (unframed_air info (lays n calls)) e ≡ event_at (unframed_air info calls) e
lays_keep info calls zero e below = refl
lays_keep info calls (suc n) e below =
    let count : length (unframed_air info (lays n calls)) ≡ n + laid_events calls = air_length info (lays n calls) ∙ lays_events calls n in
    rw (ne_eqb (length (unframed_air info (lays n calls))) e (λ same. omega (arith, same, count, below))) (lays_keep info calls n e below)

pub call_keeps : (info : BigInfo) (bis e : ℕ) (call : Call) (calls : List Call) → e < length (unframed_air info (stream_calls info bis calls))
    → (e < length (unframed_air info (stream_calls info bis (call ∷ calls))))
    × (event_at (unframed_air info (stream_calls info bis (call ∷ calls))) e ≡ event_at (unframed_air info (stream_calls info bis calls)) e)
call_keeps info bis e (give stream time octets) calls below = grind (arith, cases_eq, eq-eqb, ne_eqb)
call_keeps info bis e event calls below = grind (arith, stream_calls, length, unframed_air, air_length, lays, laid_with, lays_events, lays_keep)

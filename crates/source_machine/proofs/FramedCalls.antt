-- What the calls of a source say of its streams in a framed group.
use Rattle.source_machine.proofs.Prelude.{ℕ, ◌≡◌, ◌≢◌, ◌<◌, ◌≤◌, ◌+◌, ◌-◌, zero, suc, Option, List, [], ◌∷◌, ◌++◌, length, map, arith, ◌∙◌, ap, sym, refl, inl, inr, unwrap_or, cases_eq, eq-eqb, ne_eqb, length-drop, length-map, map-append, BigInfo, horizon_of, iso_us_of, Air, begun_in, event_at, IsAirOf, begun_by, Timed, framed_air, Setup, Call, give, event, events, framed_calls, framed_lays, given, laid_before, laid_with, lay_anchor}
use Rattle.isoal_framed.specs.Calls.{Call as TimedCall, accept, accepted}
use Rattle.isoal_framed.specs.Places.{Act}
use Rattle.isoal_framed.specs.State.Senders.{Sender, StandsFor, waiting}

lays_length : (info : BigInfo) (anchor iso_us n : ℕ) (calls : List TimedCall)
    → length (framed_air info (framed_lays anchor iso_us n calls)) ≡ n + length (framed_air info calls)
lays_length info anchor iso_us zero calls = omega arith
lays_length info anchor iso_us (suc n) calls = omega (arith, lays_length info anchor iso_us n calls)

pub lays_accepted : (anchor iso_us n : ℕ) (calls : List TimedCall) → accepted (framed_lays anchor iso_us n calls) ≡ accepted calls
lays_accepted anchor iso_us zero calls = refl
lays_accepted anchor iso_us (suc n) calls = lays_accepted anchor iso_us n calls

pub timed_same : (setup : Setup) (bis : ℕ) (time : Option ℕ) (octets : List ℕ) (calls : List Call)
    → framed_calls setup bis (give bis time octets ∷ calls) ≡ accept (unwrap_or time 0) octets ∷ framed_calls setup bis calls
timed_same setup bis time octets calls = rw (eq-eqb bis bis refl) refl

pub timed_other : (setup : Setup) (bis stream : ℕ) (time : Option ℕ) (octets : List ℕ) (calls : List Call) → stream ≢ bis
    → framed_calls setup bis (give stream time octets ∷ calls) ≡ framed_calls setup bis calls
timed_other setup bis stream time octets calls other = rw (ne_eqb stream bis other) refl

-- the units accepted are those that were given
pub timed_octets : (setup : Setup) (bis : ℕ) (calls : List Call) → map (λ (unit : Timed). unit.octets) (accepted (framed_calls setup bis calls)) ≡ given bis calls
timed_octets setup bis [] = refl
timed_octets setup bis (give stream time octets ∷ calls) =
    let units = accepted (framed_calls setup bis calls) in
    let unit : Timed = record { time = unwrap_or time 0; octets = octets } in
    elim (cases_eq stream bis) [
      | inl same ↦ rw (eq-eqb stream bis same)
          (map-append (λ (u : Timed). u.octets) units (unit ∷ []) ∙ ap (λ xs. xs ++ octets ∷ []) (timed_octets setup bis calls))
      | inr different ↦ rw (ne_eqb stream bis different) (timed_octets setup bis calls)
    ]
timed_octets setup bis (event ∷ calls) =
    ap (map (λ (u : Timed). u.octets))
    (lays_accepted (lay_anchor setup (laid_before setup.info calls)) (iso_us_of setup.info) (laid_with setup.info calls) (framed_calls setup bis calls))
    ∙ timed_octets setup bis calls

pub timed_count : (setup : Setup) (bis : ℕ) (calls : List Call) → length (accepted (framed_calls setup bis calls)) ≡ length (given bis calls)
timed_count setup bis calls =
    sym (length-map (accepted (framed_calls setup bis calls)) (λ (u : Timed). u.octets)) ∙ ap length (timed_octets setup bis calls)

-- before the first event nothing is laid
pub timed_none : (setup : Setup) (bis : ℕ) (calls : List Call) → events calls ≡ 0 → length (framed_air setup.info (framed_calls setup bis calls)) ≡ 0
timed_none setup bis (give stream time octets ∷ calls) none =
    elim (cases_eq stream bis) [
      | inl same ↦ rw (eq-eqb stream bis same) (timed_none setup bis calls none)
      | inr other ↦ rw (ne_eqb stream bis other) (timed_none setup bis calls none)
    ]
timed_none setup bis calls none = search (cases_eq, eq-eqb, ne_eqb)

-- with an event, the H events behind it are laid
pub timed_ahead : (setup : Setup) (bis : ℕ) (calls : List Call) → 1 ≤ events calls
    → length (framed_air setup.info (framed_calls setup bis calls)) ≡ events calls + horizon_of setup.info
timed_ahead setup bis [] some = absurd (omega (arith, some))
timed_ahead setup bis (give stream time octets ∷ calls) some =
    elim (cases_eq stream bis) [
      | inl same ↦ rw (eq-eqb stream bis same) (timed_ahead setup bis calls some)
      | inr other ↦ rw (ne_eqb stream bis other) (timed_ahead setup bis calls some)
    ]
timed_ahead setup bis (event ∷ calls) some =
    lays_length setup.info (lay_anchor setup (laid_before setup.info calls)) (iso_us_of setup.info) (laid_with setup.info calls) (framed_calls setup bis calls)
    ∙ elim (cases_eq (events calls) 0) [
      | inl first ↦ rw (eq-eqb (events calls) 0 first, timed_none setup bis calls first) (omega (arith, first))
      | inr later ↦
          let before : 1 ≤ events calls = omega (arith, later) in
          rw (ne_eqb (events calls) 0 later, timed_ahead setup bis calls before) (omega arith)
    ]

-- the newest entry says how many units have begun
begun_last : (info : BigInfo) (calls : List TimedCall) (acts : List Act) (air : Air) → IsAirOf info calls acts air → begun_in air ≡ begun_by acts
begun_last info (accept time octets ∷ calls) acts air is = begun_last info calls acts air is
begun_last info calls acts air is = search (begun_in, begun_by)

-- as many units wait as were accepted and have not begun
pub timed_waiting : (info : BigInfo) (calls : List TimedCall) (air : Air) (sender : Sender) → StandsFor info calls air sender
    → length (accepted calls) - begun_in air ≡ waiting sender
timed_waiting info calls air sender stands = grind (arith, length, length-drop, begun_in, begun_by, begun_last, cases_eq, eq-eqb, ne_eqb)

lays_keep : (info : BigInfo) (anchor iso_us n e : ℕ) (calls : List TimedCall) → e < length (framed_air info calls)
    → event_at (framed_air info (framed_lays anchor iso_us n calls)) e ≡ event_at (framed_air info calls) e
lays_keep info anchor iso_us zero e calls below = refl
lays_keep info anchor iso_us (suc n) e calls below =
    let air = framed_air info (framed_lays anchor iso_us n calls) in
    rw (ne_eqb (length air) e (λ same. omega (arith, same, lays_length info anchor iso_us n calls, below))) (lays_keep info anchor iso_us n e calls below)

-- what was laid stays whatever is laid behind it
pub timed_keeps : (setup : Setup) (bis e : ℕ) (call : Call) (calls : List Call) → e < length (framed_air setup.info (framed_calls setup bis calls))
    → (e < length (framed_air setup.info (framed_calls setup bis (call ∷ calls))))
    × (event_at (framed_air setup.info (framed_calls setup bis (call ∷ calls))) e ≡ event_at (framed_air setup.info (framed_calls setup bis calls)) e)
timed_keeps setup bis e (give stream time octets) calls below = grind (arith, cases_eq, eq-eqb, ne_eqb)
timed_keeps setup bis e event calls below = grind (arith, lay_anchor, laid_before, iso_us_of, laid_with, framed_calls, lays_length, lays_keep)

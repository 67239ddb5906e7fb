-- An event that is filled act by act ends all its PDUs: each act ends one, fills one that then ends, or is done with a unit.
use Rattle.isoal_framed.proofs.Prelude.{ℕ, zero, suc, ◌≡◌, ◌+◌, ◌*◌, ◌<◌, ◌≤◌, ◌⊎◌, inl, inr, true, false, eqb, List, [], ◌∷◌, ◌++◌, length, Some, refl, sym, ◌∙◌, subst, arith, slice_get, cases_Bool, cond-true, cond-false, eqb-true, eq-eqb, false≢true, slice_get_within, BigInfo, AllCome, pdus_ended, IsEvent, IsAirOf, IsFramedAir, Call, accept, lay, Timed, accepted, Act, carries, leaves_out, ends, place_of, Comes, done, sent, room, least_room}
use Rattle.circular_buffer.proofs.Places.{slice_get-append_left}
use Rattle.isoal_framed.specs.Filling.{next_act, filled, event_acts, acts_of, framed_air}
use Rattle.isoal_framed.proofs.Greedy.{Partly, cases_low, same_due, strictly, least_over}
use Rattle.isoal_framed.proofs.Packings.{comes_act}
use Rattle.isoal_framed.proofs.Senders.{done_come, done_within}

-- the due unit has octets that are not sent
abbrev DueIsLeft : List Timed → List Act → Type 0
DueIsLeft units acts = 1 ≤ sent acts → (unit : Timed) × (slice_get units (done acts) ≡ Some unit) × (sent acts < length unit.octets)

due_partly : (units : List Timed) (acts : List Act) → DueIsLeft units acts → (unit : Timed) → slice_get units (done acts) ≡ Some unit → Partly (sent acts) unit
due_partly units acts is_left unit due = grind (arith, cases_low, same_due)

next_comes : (max_pdu : ℕ) (units : List Timed) (anchor : ℕ) (acts : List Act) → DueIsLeft units acts
    → Comes (place_of max_pdu units anchor acts) (next_act max_pdu units anchor acts)
next_comes max_pdu units anchor acts is_left = comes_act (place_of max_pdu units anchor acts) (due_partly units acts is_left)

left_behind : (max_pdu : ℕ) (units : List Timed) (anchor : ℕ) (acts : List Act) (act : Act) → Comes (place_of max_pdu units anchor acts) act
    → DueIsLeft units acts → DueIsLeft units (act ∷ acts)
left_behind max_pdu units anchor acts (carries count true) comes is_left = λ some. absurd (omega arith)
left_behind max_pdu units anchor acts (carries count false) (unit, turn, not_stale, segment) is_left = grind (arith, strictly, false≢true)
left_behind max_pdu units anchor acts leaves_out comes is_left = λ some. absurd (omega arith)
left_behind max_pdu units anchor acts ends comes is_left = is_left

left_more : (units : List Timed) (last : Timed) (acts : List Act) → DueIsLeft units acts → DueIsLeft (units ++ last ∷ []) acts
left_more units last acts is_left some = grind (arith, slice_get_within, slice_get-append_left)

least_some : (sent_now count : ℕ) → 2 ≤ least_room sent_now count
least_some sent_now count = grind (arith, least_over, cases_Bool, cond-true, cond-false)

-- some acts of an event, whose last PDU has ended with the last of them or not yet
record Filling (info : BigInfo) (units : List Timed) (anchor : ℕ) (earlier own : List Act) : Type 0 where
  come : AllCome info.max_pdu units anchor earlier own
  is_left : DueIsLeft units (own ++ earlier)
  whole : (pdus_ended own < info.bn) ⊎ ((rest : List Act) × (own ≡ ends ∷ rest) × (pdus_ended own ≡ info.bn))
  count : length own ≤ 2 * pdus_ended own + done (own ++ earlier) + 1
  roomy : 2 ≤ room info.max_pdu (own ++ earlier) → length own ≤ 2 * pdus_ended own + done (own ++ earlier)

no_acts : (info : BigInfo) (units : List Timed) (anchor : ℕ) (earlier : List Act) → 1 ≤ info.bn → DueIsLeft units earlier
    → Filling info units anchor earlier []
no_acts info units anchor earlier some is_left = grind arith

one_act : (info : BigInfo) (units : List Timed) (anchor : ℕ) (earlier own : List Act) (act : Act) → 2 ≤ info.max_pdu → Filling info units anchor earlier own
    → pdus_ended own < info.bn → Comes (place_of info.max_pdu units anchor (own ++ earlier)) act → Filling info units anchor earlier (act ∷ own)
one_act info units anchor earlier own (carries count true) most filling going comes = grind (arith, least_some, left_behind)
one_act info units anchor earlier own (carries count false) most filling going comes = grind (arith, least_some, left_behind)
one_act info units anchor earlier own leaves_out most filling going comes = grind (arith, left_behind)
one_act info units anchor earlier own ends most filling going comes =
    record {
      come = (filling.come, comes);
      is_left = left_behind info.max_pdu units anchor (own ++ earlier) ends comes filling.is_left;
      whole = elim (cases_low (suc (suc (pdus_ended own))) info.bn) [
        | inl more ↦ inl more
        | inr last ↦ inr (own, refl, omega arith)
      ];
      count = omega arith;
      roomy = λ roomy. omega arith;
    }

-- so many acts, or all of them
abbrev Filled : BigInfo → List Timed → ℕ → List Act → ℕ → List Act → Type 0
Filled info units anchor earlier n own = Filling info units anchor earlier own × ((length own ≡ n) ⊎ (pdus_ended own ≡ info.bn))

one_more : (info : BigInfo) (units : List Timed) (anchor : ℕ) (earlier own : List Act) (n : ℕ) → 2 ≤ info.max_pdu
    → Filled info units anchor earlier n own → eqb (pdus_ended own) info.bn ≡ false
    → Filled info units anchor earlier (suc n) (next_act info.max_pdu units anchor (own ++ earlier) ∷ own)
one_more info units anchor earlier own n most (filling, count) going =
    let not_all : pdus_ended own ≡ info.bn → ⊥ = (λ all. false≢true (sym going ∙ eq-eqb (pdus_ended own) info.bn all)) in
    let less : pdus_ended own < info.bn = grind arith in (search (one_act, next_comes), grind arith)

filled_is : (info : BigInfo) (units : List Timed) (anchor : ℕ) (earlier : List Act) (n : ℕ) → 1 ≤ info.bn → 2 ≤ info.max_pdu → DueIsLeft units earlier
    → Filled info units anchor earlier n (filled info units anchor earlier n)
filled_is info units anchor earlier zero some most is_left = (no_acts info units anchor earlier some is_left, inl refl)
filled_is info units anchor earlier (suc n) some most is_left =
    let own : List Act = filled info units anchor earlier n in
    let before : Filled info units anchor earlier n own = filled_is info units anchor earlier n some most is_left in
    elim (cases_Bool (eqb (pdus_ended own) info.bn)) [
      | inl all ↦ grind (arith, cond-true, eqb-true)
      | inr going ↦ subst (Filled info units anchor earlier (suc n))
          (sym (cond-false (eqb (pdus_ended own) info.bn) own (next_act info.max_pdu units anchor (own ++ earlier) ∷ own) going))
          (one_more info units anchor earlier own n most before going)
    ]

-- that many acts end all its PDUs
event_is : (info : BigInfo) (units : List Timed) (anchor : ℕ) (earlier : List Act) → 1 ≤ info.bn → 2 ≤ info.max_pdu → DueIsLeft units earlier
    → done earlier ≤ length units
    → (own : List Act) × (event_acts info units anchor earlier ≡ ends ∷ own) × IsEvent info units anchor earlier own
    × DueIsLeft units (event_acts info units anchor earlier ++ earlier)
event_is info units anchor earlier some most is_left within =
    let bound : ℕ = 2 * info.bn + length units in
    let own : List Act = filled info units anchor earlier bound in
    let is : Filled info units anchor earlier bound own = filled_is info units anchor earlier bound some most is_left in
    let done_now : done (own ++ earlier) ≤ length units = done_come info.max_pdu units anchor earlier own is.0.come within in
    let whole : (rest : List Act) × (own ≡ ends ∷ rest) × (pdus_ended own ≡ info.bn) = grind arith in (
      whole.0,
      whole.1,
      grind arith,
      is.0.is_left,
    )

air_and_left : (info : BigInfo) (calls : List Call) → 1 ≤ info.bn → 2 ≤ info.max_pdu
    → IsAirOf info calls (acts_of info calls) (framed_air info calls) × DueIsLeft (accepted calls) (acts_of info calls)
air_and_left info [] some most = ((refl, refl), λ some. absurd (omega arith))
air_and_left info (accept time octets ∷ calls) some most =
    let before : IsAirOf info calls (acts_of info calls) (framed_air info calls) × DueIsLeft (accepted calls) (acts_of info calls) =
    air_and_left info calls some most in
    (before.0, left_more (accepted calls) (record { time = time; octets = octets }) (acts_of info calls) before.1)
air_and_left info (lay anchor ∷ calls) some most =
    let before : IsAirOf info calls (acts_of info calls) (framed_air info calls) × DueIsLeft (accepted calls) (acts_of info calls) =
    air_and_left info calls some most in
    let event : (own : List Act) × (event_acts info (accepted calls) anchor (acts_of info calls) ≡ ends ∷ own)
    × IsEvent info (accepted calls) anchor (acts_of info calls) own
    × DueIsLeft (accepted calls) (event_acts info (accepted calls) anchor (acts_of info calls) ++ acts_of info calls) = grind (arith, event_is, done_within) in (
      grind arith,
      event.3,
    )

-- the air is there
pub framed_air_is : (info : BigInfo) (calls : List Call) → 1 ≤ info.bn → 8 ≤ info.max_pdu → IsFramedAir info calls (framed_air info calls)
framed_air_is info calls some most = (acts_of info calls, (air_and_left info calls some (omega arith)).0)

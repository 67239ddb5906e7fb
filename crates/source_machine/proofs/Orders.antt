-- The units of a stream take its slots in the order of acceptance.
use Rattle.source_machine.proofs.Prelude.{ℕ, ◌≡◌, ◌<◌, ◌≤◌, ◌+◌, min, Some, List, [], ◌∷◌, ◌++◌, length, arith, ◌∙◌, ap, sym, refl, inl, inr, append_assoc, cases_eq, cases_lt, eq-eqb, ne_eqb, append-nil, none-some, slice_get_within, slice_get, BigInfo, per_event_of, before_event, unit_at, accept, lay, accepted, begun, begun_within}
use Rattle.circular_buffer.proofs.Places.{slice_get-append_left}
use Rattle.isoal_unframed.specs.Calls.{Call as StreamCall, events as laid_events}

-- what was accepted before an event is a prefix of all that was accepted
pub prefix_accepted : (calls : List StreamCall) (e : ℕ) → (rest : List (List ℕ)) × (accepted calls ≡ accepted (before_event calls e) ++ rest)
prefix_accepted [] e = ([], refl)
prefix_accepted (accept octets ∷ calls) e =
    let prefix = prefix_accepted calls e in
    (prefix.0 ++ octets ∷ [], ap (λ units. units ++ octets ∷ []) prefix.1 ∙ append_assoc (accepted (before_event calls e)) prefix.0 (octets ∷ []))
prefix_accepted (lay ∷ calls) e =
    elim (cases_eq (laid_events calls) e) [
      | inl here ↦ rw (eq-eqb (laid_events calls) e here) ([], sym (append-nil (accepted calls)))
      | inr other ↦ rw (ne_eqb (laid_events calls) e other) (prefix_accepted calls e)
    ]

none_before : (calls : List StreamCall) (e : ℕ) → laid_events calls ≤ e → before_event calls e ≡ []
none_before [] e past = refl
none_before (accept octets ∷ calls) e past = none_before calls e past
none_before (lay ∷ calls) e past = rw (ne_eqb (laid_events calls) e (λ same. omega (arith, same, past))) (none_before calls e (omega (arith, past)))

-- the units of an event have begun once it is laid
begun_after : (info : BigInfo) (calls : List StreamCall) (e : ℕ) → e < laid_events calls
    → min (length (accepted (before_event calls e))) (begun info (before_event calls e) + per_event_of info) ≤ begun info calls
begun_after info [] e below = absurd (omega (arith, below))
begun_after info (accept octets ∷ calls) e below = begun_after info calls e below
begun_after info (lay ∷ calls) e below =
    elim (cases_eq (laid_events calls) e) [
      | inl here ↦ rw (eq-eqb (laid_events calls) e here) (omega arith)
      | inr other ↦ rw (ne_eqb (laid_events calls) e other) (omega (arith, begun_after info calls e (omega (arith, below, other)), begun_within info calls))
    ]

begun_between : (info : BigInfo) (calls : List StreamCall) (e later : ℕ) → e < later → later < laid_events calls
    → min (length (accepted (before_event calls e))) (begun info (before_event calls e) + per_event_of info) ≤ begun info (before_event calls later)
begun_between info [] e later order below = absurd (omega (arith, below))
begun_between info (accept octets ∷ calls) e later order below = begun_between info calls e later order below
begun_between info (lay ∷ calls) e later order below =
    elim (cases_eq (laid_events calls) later) [
      | inl here ↦ grind (arith, eq-eqb, ne_eqb, begun_after)
      | inr other ↦ rw (ne_eqb (laid_events calls) later other, ne_eqb (laid_events calls) e (λ same. omega (arith, same, below, order)))
          (begun_between info calls e later order (omega (arith, below, other)))
    ]

-- the unit of a slot is one of those accepted
pub unit_is_accepted : (info : BigInfo) (calls : List StreamCall) (e slot : ℕ) (unit : List ℕ) → unit_at info calls e slot ≡ Some unit
    → slice_get (accepted calls) (begun info (before_event calls e) + slot) ≡ Some unit
unit_is_accepted info calls e slot unit is =
    let prefix = prefix_accepted calls e in
    ap (λ units. slice_get units (begun info (before_event calls e) + slot)) prefix.1
    ∙ slice_get-append_left (accepted (before_event calls e)) prefix.0 (begun info (before_event calls e) + slot)
    (slice_get_within (accepted (before_event calls e)) (begun info (before_event calls e) + slot) unit is) ∙ is

pub units_in_order : (info : BigInfo) (calls : List StreamCall) (e slot later behind : ℕ) (unit other : List ℕ) → e < later → slot < per_event_of info
    → unit_at info calls e slot ≡ Some unit → unit_at info calls later behind ≡ Some other
    → begun info (before_event calls e) + slot < begun info (before_event calls later) + behind
units_in_order info calls e slot later behind unit other order has is also =
    let within : begun info (before_event calls e) + slot < length (accepted (before_event calls e)) =
    slice_get_within (accepted (before_event calls e)) (begun info (before_event calls e) + slot) unit is in
    elim (cases_lt later (laid_events calls)) [
      | inl below ↦ omega (arith, begun_between info calls e later order below)
      | inr past ↦ grind (arith, unit_at, slice_get, accepted, begun, none_before, none-some)
    ]

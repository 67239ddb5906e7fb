-- An event that is filled act by act.
use Rattle.isoal_framed.proofs.Prelude.{ℕ, zero, suc, ◌≡◌, ◌+◌, ◌<◌, ◌≤◌, true, false, Bool, List, [], ◌∷◌, ◌++◌, length, drop, Option, Some, None, ◌⊎◌, refl, sym, ap, ◌∙◌, subst, arith, slice_get, false≢true, none-some, slice_get_past, same_Some, framed, room_in, pdu, cases_option, pdus_ended, Timed, Act, carries, leaves_out, ends, Place, place_of, Comes, done, sent, room, act_for, act_of, Carried, Changes, Placed, Going, IsPartly}
use Rattle.isoal_framed.specs.declared.packing.Packing.{Packing}
use Rattle.isoal_framed.proofs.Greedy.{Partly, strictly, comes_for, comes_none}

nothing_there : {A : Type 0} (i : ℕ) → slice_get {X = A} [] i ≡ None
nothing_there i = slice_get_past [] i (omega arith)

-- the item behind those that are dropped
pub get_behind : {A : Type 0} (items : List A) (n i : ℕ) → slice_get (drop n items) i ≡ slice_get items (n + i)
get_behind items zero i = let none : 0 + i ≡ i = omega arith in ap (slice_get items) (sym none)
get_behind [] (suc n) i = nothing_there i ∙ sym (nothing_there (suc n + i))
get_behind (x ∷ items) (suc n) i =
    let more : suc n + i ≡ suc (n + i) = omega arith in
    get_behind items n i ∙ ap (slice_get (x ∷ items)) (sym more)

pub comes_act : (place : Place) → ((unit : Timed) → place.due ≡ Some unit → Partly place.sent unit)
    → Comes place (act_of place.anchor place.room place.sent place.due)
comes_act place partly = grind (arith, cases_option, comes_none, comes_for)

-- where a packing stands
abbrev stands_at : ℕ → List Timed → Packing → Place
stands_at anchor queue packing = record {
  anchor = anchor;
  room = room_in packing.pdu;
  due = slice_get queue packing.past;
  sent = packing.sent;
}

abbrev pub At : ℕ → List Timed → ℕ → List Act → List Act → List (List ℕ) → Packing → Type 0
At max_pdu units anchor earlier acts pdus packing =
    Going max_pdu units anchor earlier acts packing.past packing.sent (room_in packing.pdu) packing.pdu.parts pdus packing.stale

due_is : (max_pdu : ℕ) (units queue : List Timed) (anchor : ℕ) (earlier acts : List Act) (pdus : List (List ℕ)) (old : Packing)
    → queue ≡ drop (done earlier) units → At max_pdu units anchor earlier acts pdus old
    → slice_get queue old.past ≡ slice_get units (done (acts ++ earlier))
due_is max_pdu units queue anchor earlier acts pdus old queue_is going = cc (get_behind units (done earlier) old.past, going.past_is)

at_place : (max_pdu : ℕ) (units queue : List Timed) (anchor : ℕ) (earlier acts : List Act) (pdus : List (List ℕ)) (old : Packing)
    → queue ≡ drop (done earlier) units → At max_pdu units anchor earlier acts pdus old
    → stands_at anchor queue old ≡ place_of max_pdu units anchor (acts ++ earlier)
at_place max_pdu units queue anchor earlier acts pdus old queue_is going = grind (arith, due_is)

pub partly_at : (queue : List Timed) (past sent_now : ℕ) → IsPartly sent_now (drop past queue) → (unit : Timed) → slice_get queue past ≡ Some unit → Partly sent_now unit
partly_at queue past sent_now partly unit due = grind (arith, get_behind)

comes_here : (max_pdu : ℕ) (units queue : List Timed) (anchor : ℕ) (earlier acts : List Act) (pdus : List (List ℕ)) (old : Packing)
    → queue ≡ drop (done earlier) units → IsPartly old.sent (drop old.past queue) → At max_pdu units anchor earlier acts pdus old
    → Comes (place_of max_pdu units anchor (acts ++ earlier)) (act_of anchor (room_in old.pdu) old.sent (slice_get queue old.past))
comes_here max_pdu units queue anchor earlier acts pdus old queue_is partly going =
    subst (λ place. Comes place (act_of anchor (room_in old.pdu) old.sent (slice_get queue old.past)))
    (at_place max_pdu units queue anchor earlier acts pdus old queue_is going)
    (comes_act (stands_at anchor queue old) (partly_at queue old.past old.sent partly))

changed : (max_pdu : ℕ) (units : List Timed) (anchor : ℕ) (earlier acts : List Act) (pdus : List (List ℕ)) (old new : Packing) (goes_on : Bool)
    (due : Option Timed) (act : Act) → due ≡ slice_get units (done (acts ++ earlier)) → At max_pdu units anchor earlier acts pdus old
    → Comes (place_of max_pdu units anchor (acts ++ earlier)) act → Changes anchor due act old new goes_on → goes_on ≡ true
    → At max_pdu units anchor earlier (act ∷ acts) pdus new × (pdus_ended (act ∷ acts) ≡ pdus_ended acts)
changed max_pdu units anchor earlier acts pdus old new goes_on None (carries count complete) due going comes changes on = absurd changes
changed max_pdu units anchor earlier acts pdus old new goes_on (Some unit) (carries count true) due going comes changes on = grind arith
changed max_pdu units anchor earlier acts pdus old new goes_on (Some unit) (carries count false) due going comes changes on = search
changed max_pdu units anchor earlier acts pdus old new goes_on None leaves_out due going comes changes on = absurd changes
changed max_pdu units anchor earlier acts pdus old new goes_on (Some unit) leaves_out due going comes changes on = grind arith
changed max_pdu units anchor earlier acts pdus old new goes_on due ends due_is going comes changes on = search false≢true

pub goes_on_is : (max_pdu : ℕ) (units queue : List Timed) (anchor : ℕ) (earlier acts : List Act) (pdus : List (List ℕ)) (old new : Packing)
    → queue ≡ drop (done earlier) units → IsPartly old.sent (drop old.past queue) → At max_pdu units anchor earlier acts pdus old
    → Placed anchor queue old new true
    → (own : List Act) × (pdus_ended own ≡ pdus_ended acts) × At max_pdu units anchor earlier own pdus new
goes_on_is max_pdu units queue anchor earlier acts pdus old new queue_is partly going placed =
    let act : Act = act_of anchor (room_in old.pdu) old.sent (slice_get queue old.past) in
    let both : At max_pdu units anchor earlier (act ∷ acts) pdus new × (pdus_ended (act ∷ acts) ≡ pdus_ended acts) =
    changed max_pdu units anchor earlier acts pdus old new true (slice_get queue old.past) act
    (due_is max_pdu units queue anchor earlier acts pdus old queue_is going) going
    (comes_here max_pdu units queue anchor earlier acts pdus old queue_is partly going) placed refl in
    (act ∷ acts, both.1, both.0)

stopped : (anchor : ℕ) (due : Option Timed) (act : Act) (old new : Packing) → Changes anchor due act old new false → (act ≡ ends) × (new ≡ old)
stopped anchor None (carries count complete) old new changes = absurd changes
stopped anchor (Some unit) (carries count complete) old new changes = absurd (false≢true changes.1)
stopped anchor None leaves_out old new changes = absurd changes
stopped anchor (Some unit) leaves_out old new changes = absurd (false≢true changes.1)
stopped anchor None ends old new changes = (refl, changes.0)
stopped anchor (Some unit) ends old new changes = (refl, changes.0)

-- the end of a PDU
pub ended_is : (max_pdu : ℕ) (units queue : List Timed) (anchor : ℕ) (earlier acts : List Act) (pdus : List (List ℕ)) (octets : List ℕ) (old new : Packing)
    → queue ≡ drop (done earlier) units → IsPartly old.sent (drop old.past queue) → At max_pdu units anchor earlier acts pdus old
    → Placed anchor queue old new false → octets ≡ pdu (framed new.pdu.parts)
    → Going max_pdu units anchor earlier (ends ∷ acts) new.past new.sent max_pdu [] (pdus ++ octets ∷ []) new.stale
ended_is max_pdu units queue anchor earlier acts pdus octets old new queue_is partly going placed octets_are = grind (arith, stopped, comes_here)

-- no event, or whole PDUs
abbrev pub EndsWhole : List Act → Type 0
EndsWhole own = (own ≡ []) ⊎ ((rest : List Act) × (own ≡ ends ∷ rest))

-- what comes, by the unit that is due
pub placed_by : (anchor : ℕ) (queue : List Timed) (old new : Packing) (goes_on : Bool) (unit : Timed) (act : Act)
    → slice_get queue old.past ≡ Some unit → act ≡ act_for anchor (room_in old.pdu) old.sent unit
    → Changes anchor (Some unit) act old new goes_on → Placed anchor queue old new goes_on
placed_by anchor queue old new goes_on unit act due is changes = grind arith

-- what is left of the units behind a segment
pub partly_left : (anchor : ℕ) (queue : List Timed) (old new : Packing) (unit : Timed) (count : ℕ) (complete : Bool)
    → slice_get queue old.past ≡ Some unit → Carried anchor unit count complete old new → (complete ≡ false → old.sent + count < length unit.octets)
    → IsPartly new.sent (drop new.past queue)
partly_left anchor queue old new unit count true due carried part = grind arith
partly_left anchor queue old new unit count false due carried part =
    let less : old.sent + count < length unit.octets = part refl in
    let at : old.past + 0 ≡ old.past = omega arith in
    let here : slice_get (drop old.past queue) 0 ≡ Some unit = get_behind queue old.past 0 ∙ ap (slice_get queue) at ∙ due in
    subst (λ n. IsPartly n (drop new.past queue)) (sym carried.sent) (grind (arith, none-some, same_Some))

part_of_it : (anchor room sent_now : ℕ) (unit : Timed) (count : ℕ) (complete : Bool) → complete ≡ false
    → Comes (record { anchor = anchor; room = room; due = Some unit; sent = sent_now }) (carries count complete) → sent_now + count < length unit.octets
part_of_it anchor room sent_now unit count complete whole (other, turn, not_stale, segment) = grind (arith, same_Some, strictly, false≢true)

-- a segment that isn't complete leaves octets of its unit
pub part_left : (anchor room sent_now : ℕ) (unit : Timed) (count : ℕ) (complete : Bool) → Partly sent_now unit
    → carries count complete ≡ act_for anchor room sent_now unit → complete ≡ false → sent_now + count < length unit.octets
part_left anchor room sent_now unit count complete partly is whole =
    let comes : Comes (record { anchor = anchor; room = room; due = Some unit; sent = sent_now }) (carries count complete) = grind (arith, comes_for (record { anchor = anchor; room = room; due = Some unit; sent = sent_now }) unit refl partly) in
    part_of_it anchor room sent_now unit count complete whole comes

within_of_it : (anchor room sent_now : ℕ) (unit : Timed) (count : ℕ) (complete : Bool)
    → Comes (record { anchor = anchor; room = room; due = Some unit; sent = sent_now }) (carries count complete) → sent_now + count ≤ length unit.octets
within_of_it anchor room sent_now unit count complete (other, turn, not_stale, segment) = grind (arith, same_Some)

-- a segment has octets of its unit alone
pub part_within : (anchor room sent_now : ℕ) (unit : Timed) (count : ℕ) (complete : Bool) → Partly sent_now unit
    → carries count complete ≡ act_for anchor room sent_now unit → sent_now + count ≤ length unit.octets
part_within anchor room sent_now unit count complete partly is =
    within_of_it anchor room sent_now unit count complete
    (grind (arith, comes_for (record { anchor = anchor; room = room; due = Some unit; sent = sent_now }) unit refl partly))

-- what comes where this unit is due, and where none is
pub comes_known : (max_pdu : ℕ) (units : List Timed) (anchor : ℕ) (acts : List Act) (act : Act) (unit : Timed) → slice_get units (done acts) ≡ Some unit
    → Partly (sent acts) unit → act_for anchor (room max_pdu acts) (sent acts) unit ≡ act → Comes (place_of max_pdu units anchor acts) act
comes_known max_pdu units anchor acts act unit due partly is = grind (arith, comes_for (place_of max_pdu units anchor acts) unit due partly)

pub comes_nothing : (max_pdu : ℕ) (units : List Timed) (anchor : ℕ) (acts : List Act) → slice_get units (done acts) ≡ None
    → Comes (place_of max_pdu units anchor acts) ends
comes_nothing max_pdu units anchor acts none = comes_none (place_of max_pdu units anchor acts) none

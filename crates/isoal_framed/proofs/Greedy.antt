-- Filling PDUs greedily meets the conditions on each place, and nothing else does: there is at most one air.
use Rattle.isoal_framed.proofs.Prelude.{ℕ, ◌≡◌, ◌+◌, ◌-◌, ◌<◌, ◌≤◌, ◌⊎◌, inl, inr, true, false, eqb, Bool, ◌&&◌, length, Option, Some, None, refl, sym, ◌∙◌, arith, cases_Bool, cond-true, cond-false, leb-true, leb-false, lt-ltb, le-ltb, le-leb, lt-leb, eqb-true, eq-eqb, ne_eqb, and_left, and_right, false≢true, cases_eq, and_from, none-some, cases_option, Timed, Act, carries, leaves_out, ends, Place, overhead, least_room, HasTurn, IsSegment, Comes, sends, unless_stale, unless_early, act_for, act_of, zero, suc, List, [], ◌∷◌, ◌++◌, ap, subst, slice_get, cases_order, BigInfo, Air, AllCome, pdus_ended, IsEvent, begun_by, IsAirOf, Call, accept, lay, accepted, place_of, room, sent, done}

pub cases_low : (m n : ℕ) → (m ≤ n) ⊎ (n < m)
cases_low m n = grind (arith, cases_Bool, leb-true, leb-false)

pub strictly : (m n : ℕ) → m ≤ n → (m ≡ n → ⊥) → m < n
strictly m n within part = grind (arith, cases_low)

-- what is sent of the due unit is less than the unit
pub record Partly (sent : ℕ) (unit : Timed) : Type 0 where
  pub within : sent ≤ length unit.octets
  pub less : 1 ≤ sent → sent < length unit.octets

pub same_due : (due : Option Timed) (unit other : Timed) → due ≡ Some unit → due ≡ Some other → other ≡ unit
same_due due unit other is also = cc

-- the least room is at least that of a segment's overhead, and one more where the unit has octets
pub least_over : (sent count : ℕ) → overhead sent ≤ least_room sent count
least_over sent count = omega arith

least_some : (sent count : ℕ) → 1 ≤ count → overhead sent + 1 ≤ least_room sent count
least_some sent count some = grind (arith, cond-false, ne_eqb)

-- the tests of the greedy filling, each with what it leads to
pub short : (anchor room sent : ℕ) (unit : Timed) → room < least_room sent (length unit.octets) → act_for anchor room sent unit ≡ ends
short anchor room sent unit below = search (cond-true, lt-ltb)

roomy_is : (anchor room sent : ℕ) (unit : Timed) → least_room sent (length unit.octets) ≤ room
    → act_for anchor room sent unit ≡ unless_early anchor room sent unit
roomy_is anchor room sent unit roomy = search (cond-false, le-ltb)

early_is : (anchor room sent : ℕ) (unit : Timed) → least_room sent (length unit.octets) ≤ room → sent ≡ 0 → anchor < unit.time
    → act_for anchor room sent unit ≡ ends
early_is anchor room sent unit roomy fresh early = grind (arith, roomy_is, cond-true, and_from, eq-eqb, lt-ltb)

-- where a first test leads to the second alone
unless_fresh : (sent : ℕ) (b : Bool) → (sent ≡ 0 → b ≡ false) → (eqb sent 0 && b) ≡ false
unless_fresh sent b not = grind (arith, cases_Bool, and_right, eqb-true, and_left)

ready_is : (anchor room sent : ℕ) (unit : Timed) → least_room sent (length unit.octets) ≤ room → (sent ≡ 0 → unit.time ≤ anchor)
    → act_for anchor room sent unit ≡ unless_stale anchor room sent unit
ready_is anchor room sent unit roomy ready = search (roomy_is, cond-false, unless_fresh, le-ltb)

stale_is : (anchor room sent : ℕ) (unit : Timed) → least_room sent (length unit.octets) ≤ room → (sent ≡ 0 → unit.time ≤ anchor)
    → sent ≡ 0 → 16777215 < anchor - unit.time → act_for anchor room sent unit ≡ leaves_out
stale_is anchor room sent unit roomy ready fresh stale = grind (arith, ready_is, cond-true, and_from, eq-eqb, lt-ltb)

sends_is : (anchor room sent : ℕ) (unit : Timed) → least_room sent (length unit.octets) ≤ room → (sent ≡ 0 → unit.time ≤ anchor)
    → (sent ≡ 0 → anchor - unit.time ≤ 16777215) → act_for anchor room sent unit ≡ sends room sent unit
sends_is anchor room sent unit roomy ready fresh = search (ready_is, cond-false, unless_fresh, le-ltb)

-- nothing else comes
only_for : (place : Place) (unit : Timed) (act : Act) → place.due ≡ Some unit → Comes place act
    → act ≡ act_for place.anchor place.room place.sent unit
only_for place unit (carries count true) due (other, turn, not_stale, segment) = grind (arith, same_due, sends_is, cases_low, cond-true, le-leb)
only_for place unit (carries count false) due (other, turn, not_stale, segment) = grind (arith, same_due, false≢true, strictly, sends_is, cases_low, cond-false, lt-leb)
only_for place unit leaves_out due (other, turn, stale) = grind (arith, same_due, stale_is)
only_for place unit ends due none = grind (arith, cases_low, short, cases_eq, early_is)

only_none : (place : Place) (act : Act) → place.due ≡ None → Comes place act → act ≡ ends
only_none place (carries count complete) none (unit, turn, not_stale, segment) = absurd (none-some unit (sym none ∙ turn.due))
only_none place leaves_out none (unit, turn, stale) = absurd (none-some unit (sym none ∙ turn.due))
only_none place ends none comes = refl

pub only_act : (place : Place) (act : Act) → Comes place act → act ≡ act_of place.anchor place.room place.sent place.due
only_act place act comes = grind (arith, cases_option, only_none, only_for)

-- it meets the conditions
turn_of : (place : Place) (unit : Timed) → place.due ≡ Some unit → least_room place.sent (length unit.octets) ≤ place.room
    → (place.sent ≡ 0 → unit.time ≤ place.anchor) → HasTurn place unit
turn_of place unit due roomy ready = record { due = due; ready = ready; room = roomy }

whole_segment : (place : Place) (unit : Timed) → Partly place.sent unit → least_room place.sent (length unit.octets) ≤ place.room
    → length unit.octets - place.sent ≤ place.room - overhead place.sent → IsSegment place unit (length unit.octets - place.sent) true
whole_segment place unit partly roomy fits = grind (arith, least_over, cases_low, false≢true)

part_segment : (place : Place) (unit : Timed) → Partly place.sent unit → least_room place.sent (length unit.octets) ≤ place.room
    → place.room - overhead place.sent < length unit.octets - place.sent → IsSegment place unit (place.room - overhead place.sent) false
part_segment place unit partly roomy past = grind (arith, least_over, least_some, false≢true)

sends_comes : (place : Place) (unit : Timed) → place.due ≡ Some unit → Partly place.sent unit → least_room place.sent (length unit.octets) ≤ place.room
    → (place.sent ≡ 0 → unit.time ≤ place.anchor) → (place.sent ≡ 0 → place.anchor - unit.time ≤ 16777215)
    → Comes place (act_for place.anchor place.room place.sent unit)
sends_comes place unit due partly roomy ready fresh = grind (arith, sends_is, cases_low, cond-true, le-leb, turn_of, whole_segment, cond-false, lt-leb, part_segment)

pub comes_for : (place : Place) (unit : Timed) → place.due ≡ Some unit → Partly place.sent unit
    → Comes place (act_for place.anchor place.room place.sent unit)
comes_for place unit due partly =
    elim (cases_low (least_room place.sent (length unit.octets)) place.room) [
      | inr below ↦ grind (arith, short, same_due)
      | inl roomy ↦ elim (cases_eq place.sent 0) [
        | inr partial ↦ sends_comes place unit due partly roomy (λ fresh. absurd (partial fresh)) (λ fresh. absurd (partial fresh))
        | inl fresh ↦ elim (cases_low unit.time place.anchor) [
          | inr early ↦ grind (arith, early_is, same_due)
          | inl ready ↦ grind (arith, cases_low, stale_is, turn_of, sends_comes)
        ]
      ]
    ]

pub comes_none : (place : Place) → place.due ≡ None → Comes place ends
comes_none place none unit turn = none-some unit (sym none ∙ turn.due)

-- ---- at most one air: the acts of an event are those of the greedy filling, up to the end of its last PDU

-- so many acts of the greedy filling
greedy : ℕ → List Timed → ℕ → List Act → ℕ → List Act
greedy max_pdu units anchor earlier zero = []
greedy max_pdu units anchor earlier (suc n) =
    act_of anchor (room max_pdu (greedy max_pdu units anchor earlier n ++ earlier)) (sent (greedy max_pdu units anchor earlier n ++ earlier))
    (slice_get units (done (greedy max_pdu units anchor earlier n ++ earlier))) ∷ greedy max_pdu units anchor earlier n

greedy_more : (max_pdu : ℕ) (units : List Timed) (anchor : ℕ) (earlier : List Act) (n : ℕ) (acts : List Act) → acts ≡ greedy max_pdu units anchor earlier n
    → act_of anchor (room max_pdu (acts ++ earlier)) (sent (acts ++ earlier)) (slice_get units (done (acts ++ earlier))) ∷ acts
    ≡ greedy max_pdu units anchor earlier (suc n)
unfolding greedy
greedy_more max_pdu units anchor earlier n acts is = grind (arith, act_of, room, sent, slice_get, done)

-- acts that all come are these
acts_are : (max_pdu : ℕ) (units : List Timed) (anchor : ℕ) (earlier acts : List Act) → AllCome max_pdu units anchor earlier acts
    → acts ≡ greedy max_pdu units anchor earlier (length acts)
unfolding greedy
acts_are max_pdu units anchor earlier [] come = refl
acts_are max_pdu units anchor earlier (act ∷ acts) come =
    ap (λ x. x ∷ acts) (only_act (place_of max_pdu units anchor (acts ++ earlier)) act come.1)
    ∙ greedy_more max_pdu units anchor earlier (length acts) acts (acts_are max_pdu units anchor earlier acts come.0)

ended_more : (act : Act) (acts : List Act) → pdus_ended acts ≤ pdus_ended (act ∷ acts)
ended_more (carries count complete) acts = omega arith
ended_more leaves_out acts = omega arith
ended_more ends acts = omega arith

ended_step : (max_pdu : ℕ) (units : List Timed) (anchor : ℕ) (earlier : List Act) (n : ℕ)
    → pdus_ended (greedy max_pdu units anchor earlier n) ≤ pdus_ended (greedy max_pdu units anchor earlier (suc n))
unfolding greedy
ended_step max_pdu units anchor earlier n = grind (arith, ended_more, act_of, room, greedy, sent, slice_get, done)

ended_rises : (max_pdu : ℕ) (units : List Timed) (anchor : ℕ) (earlier : List Act) (n k : ℕ)
    → pdus_ended (greedy max_pdu units anchor earlier n) ≤ pdus_ended (greedy max_pdu units anchor earlier (k + n))
ended_rises max_pdu units anchor earlier n zero = grind (arith, pdus_ended, greedy)
ended_rises max_pdu units anchor earlier n (suc k) =
    let before : pdus_ended (greedy max_pdu units anchor earlier n) ≤ pdus_ended (greedy max_pdu units anchor earlier (k + n)) =
    ended_rises max_pdu units anchor earlier n k in
    let step : pdus_ended (greedy max_pdu units anchor earlier (k + n)) ≤ pdus_ended (greedy max_pdu units anchor earlier (suc (k + n))) =
    ended_step max_pdu units anchor earlier (k + n) in
    let more : suc k + n ≡ suc (k + n) = omega arith in
    subst (λ m. pdus_ended (greedy max_pdu units anchor earlier n) ≤ pdus_ended (greedy max_pdu units anchor earlier m)) (sym more) (omega arith)

-- of two events the one with fewer acts would end fewer PDUs
no_shorter : (info : BigInfo) (units : List Timed) (anchor : ℕ) (earlier one other : List Act) → IsEvent info units anchor earlier one
    → IsEvent info units anchor earlier other → length one < length other → ⊥
no_shorter info units anchor earlier one other is also less =
    let k : ℕ = length other - suc (length one) in
    let sum : k + suc (length one) ≡ length other = omega arith in
    let rises : pdus_ended (greedy info.max_pdu units anchor earlier (suc (length one))) ≤ pdus_ended (greedy info.max_pdu units anchor earlier (k + suc (length one))) =
    ended_rises info.max_pdu units anchor earlier (suc (length one)) k in
    let first : pdus_ended (ends ∷ one) ≡ pdus_ended (greedy info.max_pdu units anchor earlier (suc (length one))) =
    ap pdus_ended (acts_are info.max_pdu units anchor earlier (ends ∷ one) is.come) in
    let second : pdus_ended other ≡ pdus_ended (greedy info.max_pdu units anchor earlier (k + suc (length one))) =
    ap pdus_ended (acts_are info.max_pdu units anchor earlier other also.come.0) ∙ ap (λ n. pdus_ended (greedy info.max_pdu units anchor earlier n)) (sym sum) in
    let all : suc (pdus_ended one) ≡ info.bn = is.all in
    let all_other : suc (pdus_ended other) ≡ info.bn = also.all in
    omega arith

pub one_event : (info : BigInfo) (units : List Timed) (anchor : ℕ) (earlier one other : List Act) → IsEvent info units anchor earlier one
    → IsEvent info units anchor earlier other → one ≡ other
one_event info units anchor earlier one other is also = grind (arith, cases_order, length, acts_are, greedy, no_shorter)

pub one_air : (info : BigInfo) (calls : List Call) (acts others : List Act) (air other : Air) → IsAirOf info calls acts air → IsAirOf info calls others other
    → (acts ≡ others) × (air ≡ other)
one_air info [] acts others air other is also = (is.0 ∙ sym also.0, is.1 ∙ sym also.1)
one_air info (accept time octets ∷ calls) acts others air other is also = one_air info calls acts others air other is also
one_air info (lay anchor ∷ calls) acts others air other (earlier, before, own, is_before, event, acts_is, air_is) (earlier', before', own', is_before', event', acts_is', air_is') =
    let same : (earlier ≡ earlier') × (before ≡ before') = one_air info calls earlier earlier' before before' is_before is_before' in
    let own_is : own ≡ own' = grind (arith, one_event, accepted) in
    let acts_same : acts ≡ others = acts_is ∙ ap (λ xs. ends ∷ xs ++ earlier) own_is ∙ ap (λ xs. ends ∷ own' ++ xs) same.0 ∙ sym acts_is' in (
      acts_same,
      grind (arith, accepted, ends, begun_by),
    )

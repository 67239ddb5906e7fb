-- How the units that acts have sent stand for these acts, and what later calls leave of it.
use Rattle.isoal_framed.proofs.Prelude.{ℕ, zero, suc, ◌≡◌, ◌+◌, ◌-◌, ◌<◌, ◌≤◌, ◌⊎◌, inl, inr, true, false, Bool, ◌&&◌, List, [], ◌∷◌, ◌++◌, length, take, Option, Some, None, refl, sym, ap, ◌∙◌, subst, arith, slice_get, cond-false, ne_eqb, and_right, append-nil, length-take, none-some, slice_get_past, slice_get_within, Part, more, Laying, Timed, Act, done, sent, room, IsTimed, IsOf, AreOf, Sent, Fit, octets_in, carried, is_last, parts_at, flat_map-append}
use Rattle.isoal_framed.specs.Struck.{behind}
use Rattle.isoal_framed.proofs.Stays.{carried_past}
use Rattle.isoal_framed.proofs.Entries.{carried_here, carried_later}

-- units that are wholly sent, and the one that is partly sent
abbrev pub all : List Sent → Option Sent → List Sent
all closed None = closed
all closed (Some unit) = closed ++ unit ∷ []

abbrev pub Chain : ℕ → ℕ → List Sent → Type 0
Chain from to [] = from ≤ to
Chain from to (unit ∷ units) = (from ≤ unit.first) × (1 ≤ length unit.segments) × (unit.whole ≡ true) × Chain (behind unit - 1) to units

pub chain_more : (from to next : ℕ) (units : List Sent) (unit : Sent) → Chain from to units → to ≤ unit.first → 1 ≤ length unit.segments → unit.whole ≡ true
    → behind unit - 1 ≤ next → Chain from next (units ++ unit ∷ [])
chain_more from to next [] unit chain least some whole below = ((let low : from ≤ to = chain in omega arith), some, whole, below)
chain_more from to next (first ∷ units) unit chain least some whole below =
    (chain.0, chain.1, chain.2, chain_more (behind first - 1) to next units unit chain.3 least some whole below)

-- the unit that is partly sent goes on in this PDU, or has filled it
pub record Open (max_pdu max_sdu low number sent_now room_now : ℕ) (unit : Sent) : Type 0 where
  pub part : unit.whole ≡ false
  pub least : low ≤ unit.first
  pub some : 1 ≤ length unit.segments
  pub begun : 1 ≤ sent_now
  pub place : ((behind unit ≡ number) × (room_now ≡ max_pdu)) ⊎ ((behind unit ≡ number + 1) × (room_now < 3))
  pub octets : length (octets_in unit.segments) ≤ sent_now

abbrev pub OpenIs : ℕ → ℕ → ℕ → ℕ → ℕ → ℕ → Option Sent → Type 0
OpenIs max_pdu max_sdu low number sent_now room_now None = sent_now ≡ 0
OpenIs max_pdu max_sdu low number sent_now room_now (Some unit) = Open max_pdu max_sdu low number sent_now room_now unit

-- one more accepted unit
pub get_more : {A : Type 0} (items : List A) (last : A) (i : ℕ) (item : A) → slice_get items i ≡ Some item → slice_get (items ++ last ∷ []) i ≡ Some item
get_more (x ∷ items) last (suc i) item is = get_more items last i item is
get_more items last i item is = search (none-some, slice_get_past)

-- the unit that is partly sent is the due one
abbrev pub OpenOf : ℕ → List Laying → List Timed → List Act → Option Sent → Type 0
OpenOf bn laid units acts None = Unit {0}
OpenOf bn laid units acts (Some unit) =
    (timed : Timed) × (slice_get units (done acts) ≡ Some timed) × (octets_in unit.segments ≡ take (sent acts) timed.octets) × IsTimed bn laid (done acts) timed unit

-- units of accepted ones, and one more
pub are_more : (bn : ℕ) (laid : List Laying) (n : ℕ) (xs ys : List Timed) (units : List Sent) → AreOf bn laid n xs units → AreOf bn laid n (xs ++ ys) units
are_more bn laid n xs ys [] are = tt
are_more bn laid n [] ys (unit ∷ units) are = absurd are
are_more bn laid n (x ∷ xs) ys (unit ∷ units) (inl (here, rest)) = inl (here, are_more bn laid (n + 1) xs ys units rest)
are_more bn laid n (x ∷ xs) ys (unit ∷ units) (inr rest) = inr (are_more bn laid (n + 1) xs ys (unit ∷ units) rest)

are_last : (bn : ℕ) (laid : List Laying) (n at : ℕ) (xs : List Timed) (last : Timed) (unit : Sent) → at ≡ n + length xs → IsOf bn laid at last unit
    → AreOf bn laid n (xs ++ last ∷ []) (unit ∷ [])
are_last bn laid n at [] last unit here is = let same : at ≡ n = omega (arith, here) in inl (subst (λ i. IsOf bn laid i last unit) same is, tt)
are_last bn laid n at (x ∷ xs) last unit here is = inr (are_last bn laid (n + 1) at xs last unit (omega (arith, here)) is)

pub are_snoc : (bn : ℕ) (laid : List Laying) (n at : ℕ) (xs : List Timed) (units : List Sent) (last : Timed) (unit : Sent) → AreOf bn laid n xs units → at ≡ n + length xs
    → IsOf bn laid at last unit → AreOf bn laid n (xs ++ last ∷ []) (units ++ unit ∷ [])
are_snoc bn laid n at xs [] last unit are here is = are_last bn laid n at xs last unit here is
are_snoc bn laid n at [] (first ∷ units) last unit are here is = absurd are
are_snoc bn laid n at (x ∷ xs) (first ∷ units) last unit (inl (it, rest)) here is = inl (it, are_snoc bn laid (n + 1) at xs units last unit rest (omega (arith, here)) is)
are_snoc bn laid n at (x ∷ xs) (first ∷ units) last unit (inr rest) here is = inr (are_snoc bn laid (n + 1) at xs (first ∷ units) last unit rest (omega (arith, here)) is)

-- one more event
timed_more : (bn : ℕ) (laid : List Laying) (laying : Laying) (n : ℕ) (timed : Timed) (unit : Sent) → IsTimed bn laid n timed unit → IsTimed bn (laid ++ laying ∷ []) n timed unit
timed_more bn laid laying n timed unit is = search get_more

are_anchored : (bn : ℕ) (laid : List Laying) (laying : Laying) (n : ℕ) (xs : List Timed) (units : List Sent) → AreOf bn laid n xs units → AreOf bn (laid ++ laying ∷ []) n xs units
are_anchored bn laid laying n xs [] are = tt
are_anchored bn laid laying n [] (unit ∷ units) are = absurd are
are_anchored bn laid laying n (x ∷ xs) (unit ∷ units) (inl (here, rest)) =
    inl (record { octets = here.octets; timed = timed_more bn laid laying n x unit here.timed }, are_anchored bn laid laying (n + 1) xs units rest)
are_anchored bn laid laying n (x ∷ xs) (unit ∷ units) (inr rest) = inr (are_anchored bn laid laying (n + 1) xs (unit ∷ units) rest)

open_anchored : (bn : ℕ) (laid : List Laying) (laying : Laying) (units : List Timed) (acts : List Act) (opened : Option Sent) → OpenOf bn laid units acts opened
    → OpenOf bn (laid ++ laying ∷ []) units acts opened
open_anchored bn laid laying units acts opened is = grind (arith, timed_more)

open_more : (bn : ℕ) (laid : List Laying) (units : List Timed) (last : Timed) (acts : List Act) (opened : Option Sent) → OpenOf bn laid units acts opened
    → OpenOf bn laid (units ++ last ∷ []) acts opened
open_more bn laid units last acts opened is = grind (arith, get_more)

-- lists of accepted units
pub take_next : {A : Type 0} (items : List A) (n : ℕ) (item : A) → slice_get items n ≡ Some item → take (n + 1) items ≡ take n items ++ item ∷ []
take_next (x ∷ items) (suc n) item is =
    let more : suc n + 1 ≡ suc (n + 1) = omega arith in
    ap (λ k. take k (x ∷ items)) more ∙ ap (λ xs. x ∷ xs) (take_next items n item is)
take_next items n item is = search (none-some, slice_get_past)

take_more_of : {A : Type 0} (n : ℕ) (xs ys : List A) → (zs : List A) × (take n (xs ++ ys) ≡ take n xs ++ zs)
take_more_of zero xs ys = ([], refl)
take_more_of (suc n) [] ys = (take (suc n) ys, refl)
take_more_of {A = A} (suc n) (x ∷ xs) ys =
    let rest : (zs : List A) × (take n (xs ++ ys) ≡ take n xs ++ zs) = take_more_of n xs ys in
    (rest.0, ap (λ zs. x ∷ zs) rest.1)

pub taken_before : {A : Type 0} (items : List A) (n : ℕ) (item : A) → slice_get items n ≡ Some item → n ≡ 0 + length (take n items)
taken_before items n item is = omega (arith, length-take n items, slice_get_within items n item is)

pub octets_snoc : (segments : List (List ℕ)) (octets : List ℕ) → octets_in (segments ++ octets ∷ []) ≡ octets_in segments ++ octets
octets_snoc segments octets = cc (flat_map-append (λ xs. xs) segments (octets ∷ []), append-nil octets)

pub get_same : (units : List Timed) (n : ℕ) (one other : Timed) → slice_get units n ≡ Some one → slice_get units n ≡ Some other → one ≡ other
get_same units n one other is also = let same : Some one ≡ Some other = sym is ∙ also in cc

pub record Sending (max_pdu max_sdu bn : ℕ) (laid : List Laying) (units : List Timed) (number : ℕ) (acts : List Act) (parts : List Part) (closed : List Sent) (opened : Option Sent) : Type 0 where
  pub low : ℕ
  pub chain : Chain 0 low closed
  pub low_is : low ≤ number
  pub open_is : OpenIs max_pdu max_sdu low number (sent acts) (room max_pdu acts) opened
  pub due : 1 ≤ sent acts → (unit : Timed) × (slice_get units (done acts) ≡ Some unit) × (sent acts ≤ length unit.octets)
  pub here : parts ≡ parts_at (all closed opened) number
  pub fit : Fit max_sdu closed
  pub closed_of : AreOf bn laid 0 (take (done acts) units) closed
  pub open_of : OpenOf bn laid units acts opened

chain_low : (from to : ℕ) (units : List Sent) → Chain from to units → from ≤ to
chain_low from to [] chain = chain
chain_low from to (unit ∷ units) chain = grind (arith, chain_low (behind unit - 1) to units chain.3, chain.0, chain.1)

pub at_least : (n : ℕ) → (n ≡ 0 → ⊥) → 1 ≤ n
at_least n some = grind arith

-- what stays of the PDUs before
abbrev pub Stable : ℕ → List Sent → List Sent → Type 0
Stable number now before = (q : ℕ) → q < number → parts_at now q ≡ parts_at before q

pub parts_last : (units : List Sent) (unit : Sent) (number : ℕ)
    → parts_at (units ++ unit ∷ []) number ≡ parts_at units number ++ carried unit.first (Some unit.offset) unit.segments unit.whole number
parts_last units unit number = search (flat_map-append, append-nil)

pub fit_more : (max_sdu : ℕ) (units : List Sent) (unit : Sent) → Fit max_sdu units → length (octets_in unit.segments) ≤ max_sdu → Fit max_sdu (units ++ unit ∷ [])
fit_more max_sdu [] unit fit here = (here, tt)
fit_more max_sdu (first ∷ units) unit fit here = (fit.0, fit_more max_sdu units unit fit.1 here)

not_last : (segments : List (List ℕ)) (octets : List ℕ) → is_last (segments ++ octets ∷ []) ≡ false
not_last [] octets = refl
not_last (segment ∷ segments) octets = refl

pub snoc_before : (first number : ℕ) (offset : Option ℕ) (segments : List (List ℕ)) (octets : List ℕ) (whole : Bool) → number < first + length segments
    → carried first offset (segments ++ octets ∷ []) whole number ≡ carried first offset segments false number
snoc_before first number offset [] octets whole below = grind (arith, cond-false, ne_eqb)
snoc_before first number offset (segment ∷ segments) octets whole below = cc (not_last segments octets, and_right whole false refl, snoc_before (first + 1) number None segments octets whole (omega arith))

pub snoc_here : (first number : ℕ) (offset : Option ℕ) (segments : List (List ℕ)) (octets : List ℕ) (whole : Bool) → 1 ≤ length segments
    → first + length segments ≡ number → carried first offset (segments ++ octets ∷ []) whole number ≡ more (whole && true) octets ∷ []
snoc_here first number offset [] octets whole some at = absurd (omega arith)
snoc_here first number offset (segment ∷ []) octets whole some at = grind (arith, carried_later, carried_here)
snoc_here first number offset (segment ∷ next ∷ segments) octets whole some at =
    carried_later first number offset segment (next ∷ (segments ++ octets ∷ [])) whole (omega arith)
    ∙ snoc_here (first + 1) number None (next ∷ segments) octets whole (omega arith) (omega arith)

-- units behind whose last number a PDU stands
pub chain_past : (from to number : ℕ) (units : List Sent) → Chain from to units → to < number → parts_at units number ≡ []
chain_past from to number [] chain past = refl
chain_past from to number (unit ∷ units) chain past =
    let below : behind unit - 1 ≤ to = chain_low (behind unit - 1) to units chain.3 in
    ap (λ parts. parts ++ parts_at units number) (carried_past unit.first number (Some unit.offset) unit.segments unit.whole (omega arith))
    ∙ chain_past (behind unit - 1) to number units chain.3 past

abbrev pub Grown : ℕ → ℕ → ℕ → List Laying → List Timed → ℕ → List Act → List Part → List Sent → Option Sent → Type 0
Grown max_pdu max_sdu bn laid units number acts parts closed opened =
    (closed' : List Sent) × (opened' : Option Sent) × Sending max_pdu max_sdu bn laid units number acts parts closed' opened'
    × Stable number (all closed' opened') (all closed opened)

pub accepted_more : (max_pdu max_sdu bn : ℕ) (laid : List Laying) (units : List Timed) (last : Timed) (number : ℕ) (acts : List Act) (parts : List Part) (closed : List Sent) (opened : Option Sent)
    → Sending max_pdu max_sdu bn laid units number acts parts closed opened → Sending max_pdu max_sdu bn laid (units ++ last ∷ []) number acts parts closed opened
accepted_more max_pdu max_sdu bn laid units last number acts parts closed opened sending = record {
  low = sending.low;
  chain = sending.chain;
  low_is = sending.low_is;
  open_is = sending.open_is;
  due = grind (arith, get_more);
  here = sending.here;
  fit = sending.fit;
  closed_of =
      (let taken : (zs : List Timed) × (take (done acts) (units ++ last ∷ []) ≡ take (done acts) units ++ zs) = take_more_of (done acts) units (last ∷ []) in
      subst (λ xs. AreOf bn laid 0 xs closed) (sym taken.1) (are_more bn laid 0 (take (done acts) units) taken.0 closed sending.closed_of));
  open_of = open_more bn laid units last acts opened sending.open_of;
}

pub anchored_more : (max_pdu max_sdu bn : ℕ) (laid : List Laying) (units : List Timed) (laying : Laying) (number : ℕ) (acts : List Act) (parts : List Part) (closed : List Sent) (opened : Option Sent)
    → Sending max_pdu max_sdu bn laid units number acts parts closed opened → Sending max_pdu max_sdu bn (laid ++ laying ∷ []) units number acts parts closed opened
anchored_more max_pdu max_sdu bn laid units laying number acts parts closed opened sending = search (are_anchored, open_anchored)

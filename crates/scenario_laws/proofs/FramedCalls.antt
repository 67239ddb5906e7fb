-- What a source of a framed group lays: how many events, with which anchors, and that its units fit Max_SDU.
use Rattle.scenario_laws.proofs.Known.Sources.Steps.{ℕ, zero, suc, ◌≡◌, ◌⊎◌, ◌<◌, ◌≤◌, ◌+◌, ◌*◌, ◌==◌, cond, ltb, Bool, true, List, [], ◌∷◌, ◌++◌, length, Some, refl, sym, ◌∙◌, ap, subst, arith, inl, inr, slice_get, unwrap_or, AllByRecursion, add-mul, cases_eq, cond-false, eq-eqb, eqb-true, ltb-false, ne_eqb, length-append, none-some, same_Some, BigInfo, horizon_of, iso_us_of, Air, IsAirOf, IsFramedAir, Laying, Timed, accept, accepted, layings_of, Setup, give, event, events, framed_calls, framed_lays, laid_before, laid_with, lay_anchor, timed_accepted, Airs, AreAccepted, FramedCall, framed_lay as lay, SourceCall as Call, second_false}
use Rattle.isoal_framed.specs.Places.{Act}

-- ---- the events laid, by their anchors

-- so many events are laid, and the n-th of them has its anchor
pub record LaidBy (setup : Setup) (count : ℕ) (calls : List FramedCall) : Type 0 where
  pub count_is : length (layings_of calls) ≡ count
  pub each : (n : ℕ) → (laying : Laying) → slice_get (layings_of calls) n ≡ Some laying → laying.anchor ≡ lay_anchor setup n

pub get_last : {A : Type 0} (xs : List A) (y : A) (n : ℕ) (x : A) → slice_get (xs ++ y ∷ []) n ≡ Some x → (slice_get xs n ≡ Some x) ⊎ ((n ≡ length xs) × (x ≡ y))
get_last [] y zero x is = inr (refl, sym (same_Some y x is))
get_last [] y (suc n) x is = absurd (none-some x is)
get_last (z ∷ xs) y zero x is = inl is
get_last (z ∷ xs) y (suc n) x is = elim (get_last xs y n x is) [ inl before ↦ inl before | inr last ↦ inr (omega (arith, last.0), last.1) ]

lay_one : (setup : Setup) (count : ℕ) (calls : List FramedCall) (anchor : ℕ) → LaidBy setup count calls → anchor ≡ lay_anchor setup count → LaidBy setup (count + 1) (lay anchor ∷ calls)
lay_one setup count calls anchor by is = grind (arith, length, accepted, length-append, layings_of, get_last, lay_anchor)

lay_all : (setup : Setup) (base count : ℕ) (calls : List FramedCall) → LaidBy setup base calls
    → LaidBy setup (base + count) (framed_lays (lay_anchor setup base) (iso_us_of setup.info) count calls)
lay_all setup base zero calls by = subst (λ n. LaidBy setup n calls) (omega arith) by
lay_all setup base (suc count) calls by =
    let product : (base + count) * iso_us_of setup.info ≡ base * iso_us_of setup.info + count * iso_us_of setup.info = add-mul base count (iso_us_of setup.info) in
    let more : base + count + 1 ≡ base + suc count = omega arith in
    subst (λ n. LaidBy setup n (lay (lay_anchor setup base + count * iso_us_of setup.info) ∷ framed_lays (lay_anchor setup base) (iso_us_of setup.info) count calls)) more
    (lay_one setup (base + count) (framed_lays (lay_anchor setup base) (iso_us_of setup.info) count calls) (lay_anchor setup base + count * iso_us_of setup.info)
    (lay_all setup base count calls by) (omega (arith, product)))

count_laid : (none : Bool) (h count : ℕ) → (none ≡ true → count ≡ 0) → cond none 0 (count + h) + cond none (h + 1) 1 ≡ suc count + h
count_laid none h count is = grind arith

pub laid_some : (count h : ℕ) → 0 < count → cond (count == 0) 0 (count + h) ≡ count + h
laid_some count h some = cond-false (count == 0) 0 (count + h) (ne_eqb count 0 (λ is. omega (arith, some, is)))

pub laid_by : (setup : Setup) (bis : ℕ) (calls : List Call) → LaidBy setup (laid_before setup.info calls) (framed_calls setup bis calls)
laid_by setup bis [] = record { count_is = refl; each = λ n laying at. absurd (none-some laying at) }
laid_by setup bis (give stream time octets ∷ calls) = elim (cases_eq stream bis) [
  | inl same ↦ rw (eq-eqb stream bis same) (record { count_is = (laid_by setup bis calls).count_is; each = (laid_by setup bis calls).each })
  | inr other ↦ rw (ne_eqb stream bis other) (laid_by setup bis calls)
]
laid_by setup bis (event ∷ calls) =
    subst (λ n. LaidBy setup n (framed_calls setup bis (event ∷ calls)))
    (count_laid (events calls == 0) (horizon_of setup.info) (events calls) (eqb-true (events calls) 0) ∙ sym (laid_some (suc (events calls)) (horizon_of setup.info) (omega arith)))
    (lay_all setup (laid_before setup.info calls) (laid_with setup.info calls) (framed_calls setup bis calls) (laid_by setup bis calls))

-- an air has an entry for each event laid
air_long : (info : BigInfo) (calls : List FramedCall) (acts : List Act) (air : Air) → IsAirOf info calls acts air → length air ≡ length (layings_of calls)
air_long info [] acts air is = ap length is.1
air_long info (accept time octets ∷ calls) acts air is = air_long info calls acts air is
air_long info (lay anchor ∷ calls) acts air is =
    let before : length is.1 ≡ length (layings_of calls) = air_long info calls is.0 is.1 is.3 in
    ap length is.6 ∙ omega (arith, before, length-append (layings_of calls) (record { anchor = anchor; units = length (accepted calls) } ∷ []))

pub events_in : (setup : Setup) (bis : ℕ) (calls : List Call) (air : Air) → IsFramedAir setup.info (framed_calls setup bis calls) air → length air ≡ laid_before setup.info calls
events_in setup bis calls air is = air_long setup.info (framed_calls setup bis calls) is.0 air is.1 ∙ (laid_by setup bis calls).count_is

-- ---- no unit is longer than Max_SDU

abbrev Short : ℕ → Timed → Type 0
Short most unit = length unit.octets ≤ most

pub all_append : {A : Type 0} (P : A → Type 0) (xs ys : List A) → AllByRecursion P xs → AllByRecursion P ys → AllByRecursion P (xs ++ ys)
all_append P [] ys first rest = rest
all_append P (x ∷ xs) ys first rest = (first.0, all_append P xs ys first.1 rest)

all_short : (airs : Airs) (setup : Setup) (bis : ℕ) (calls : List Call) → AreAccepted airs setup calls → AllByRecursion (Short setup.info.max_sdu) (accepted (framed_calls setup bis calls))
all_short airs setup bis [] all = tt
all_short airs setup bis (give stream time octets ∷ calls) all = elim (cases_eq stream bis) [
  | inl same ↦ rw (eq-eqb stream bis same)
      (all_append (Short setup.info.max_sdu) (accepted (framed_calls setup bis calls)) (record { time = unwrap_or time 0; octets = octets } ∷ []) (all_short airs setup bis calls all.0)
      (ltb-false setup.info.max_sdu (length octets) (second_false (ltb setup.info.num_bis stream) (ltb setup.info.max_sdu (length octets)) _ _ _ all.1), tt))
  | inr other ↦ rw (ne_eqb stream bis other) (all_short airs setup bis calls all.0)
]
all_short airs setup bis (event ∷ calls) all = search (timed_accepted, all_short airs setup bis calls all.0)

pub one_of : {A : Type 0} (P : A → Type 0) (xs : List A) (i : ℕ) (x : A) → AllByRecursion P xs → slice_get xs i ≡ Some x → P x
one_of P [] i x all is = absurd (none-some x is)
one_of P (first ∷ xs) zero x all is = subst P (same_Some first x is) all.0
one_of P (first ∷ xs) (suc i) x all is = one_of P xs i x all.1 is

pub unit_short : (airs : Airs) (setup : Setup) (bis : ℕ) (calls : List Call) → AreAccepted airs setup calls → (i : ℕ) (unit : Timed) → slice_get (accepted (framed_calls setup bis calls)) i ≡ Some unit
    → length unit.octets ≤ setup.info.max_sdu
unit_short airs setup bis calls all i unit is = one_of (Short setup.info.max_sdu) (accepted (framed_calls setup bis calls)) i unit (all_short airs setup bis calls all) is

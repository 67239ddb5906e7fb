-- A receiver that stands for its calls stands for them and one more.
use Rattle.std.proofs.Common.{ℕ, ◌≡◌, ◌≢◌, ◌+◌, ◌-◌, ◌*◌, ◌/◌, ◌<◌, ◌≤◌, Bool, true, false, cond, ltb, List, [], ◌∷◌, ◌++◌, drop, replicate, set, get_or, Option, Some, None}
use Rattle.std.proofs.Common.{is_some, refl, sym, subst, arith}
use Rattle.std.proofs.Math.Nat.{le-div_iff_mul-le, div-lt_iff_lt-mul, add-mul}
use Rattle.std.proofs.lemmas.Bool.{ltb-true, ltb-false, false≢true, true≢false, cases_eq}
use Rattle.std.proofs.lemmas.List.FromFn.{get_or-map-range_with_len}
use Rattle.big_info.specs.Schedule.{horizon_of}
use Rattle.iso_pdu.specs.Layout.{Content}
use Rattle.isoal_base.specs.declared.heard.Heard.TheVariants.{Late, Beyond, Repeat, Kept}
use Rattle.isoal_base.specs.Stays.{Stay, Call, hear, close, InWindow, heard, window_of, StandsFor}
use Rattle.isoal_base.specs.Hearing.{read_as, placing, of_framing, kept_by, kept_after}
use Rattle.isoal_base.proofs.Ranges.{map_same, map_changed, map_constant, map_shifted}
use Rattle.isoal_base.proofs.Heards.{entry_here, entry_other, entry_outside, entry_unread, heard_same, heard_kept, heard_new, heard_within, cases_option}

-- the numbers of the window, without a division
pub window_least : (stay : Stay) (event number : ℕ) → 1 ≤ stay.info.bn → InWindow stay event number → event * stay.info.bn ≤ number
window_least stay event number some within = (le-div_iff_mul-le some).0 within.0

pub window_below : (stay : Stay) (event number : ℕ) → 1 ≤ stay.info.bn → number / stay.info.bn ≤ event + horizon_of stay.info
    → number < event * stay.info.bn + window_of stay.info
window_below stay event number some within =
    let below : number < (event + (horizon_of stay.info + 1)) * stay.info.bn = (div-lt_iff_lt-mul some).0 (omega arith) in
    subst (λ top. number < top) (add-mul event (horizon_of stay.info + 1) stay.info.bn) below

pub window_is : (stay : Stay) (event number : ℕ) → 1 ≤ stay.info.bn → event * stay.info.bn ≤ number
    → number < event * stay.info.bn + window_of stay.info → InWindow stay event number
window_is stay event number some least below =
    let under : number / stay.info.bn < event + (horizon_of stay.info + 1) =
    (div-lt_iff_lt-mul some).1 (subst (λ top. number < top) (sym (add-mul event (horizon_of stay.info + 1) stay.info.bn)) below) in
    ((le-div_iff_mul-le some).1 least, omega arith)

-- before any call
pub stands_new : {A : Type 0} (read : List ℕ → Option A) (stay : Stay)
    → StandsFor read stay [] stay.first (replicate (window_of stay.info) None)
stands_new read stay = grind (arith, map_constant)

-- a hear that changes nothing of the window
hear_same : {A : Type 0} (read : List ℕ → Option A) (stay : Stay) (calls : List Call) (event : ℕ) (kept : List (Option A)) (number : ℕ) (octets : List ℕ)
    → StandsFor read stay calls event kept
    → ((other : ℕ) → heard read stay (hear number octets ∷ calls) other ≡ heard read stay calls other)
    → StandsFor read stay (hear number octets ∷ calls) event kept
hear_same read stay calls event kept number octets stands same = grind (arith, map_same)

-- a hear changes nothing of another number
other_same : {A : Type 0} (read : List ℕ → Option A) (stay : Stay) (calls : List Call) (number other : ℕ) (octets : List ℕ)
    → other ≢ number → heard read stay (hear number octets ∷ calls) other ≡ heard read stay calls other
other_same read stay calls number other octets apart = grind (arith, heard_same, entry_other)

-- a hear changes nothing where it changes nothing of its number
same_at : {A : Type 0} (read : List ℕ → Option A) (stay : Stay) (calls : List Call) (number : ℕ) (octets : List ℕ)
    → heard read stay (hear number octets ∷ calls) number ≡ heard read stay calls number
    → (other : ℕ) → heard read stay (hear number octets ∷ calls) other ≡ heard read stay calls other
same_at read stay calls number octets here other = grind (arith, cases_eq, other_same)

hear_unread : {A : Type 0} (read : List ℕ → Option A) (stay : Stay) (calls : List Call) (event : ℕ) (kept : List (Option A)) (number : ℕ) (octets : List ℕ)
    → StandsFor read stay calls event kept → read octets ≡ None → StandsFor read stay (hear number octets ∷ calls) event kept
hear_unread read stay calls event kept number octets stands unread = grind (arith, hear_same, heard_same, entry_unread)

hear_outside : {A : Type 0} (read : List ℕ → Option A) (stay : Stay) (calls : List Call) (event : ℕ) (kept : List (Option A)) (number : ℕ) (octets : List ℕ)
    → StandsFor read stay calls event kept → ¬ InWindow stay event number → StandsFor read stay (hear number octets ∷ calls) event kept
hear_outside read stay calls event kept number octets stands outside = grind (arith, hear_same, same_at, heard_same, entry_outside)

-- what stands at an index of the window
kept_at : {A : Type 0} (read : List ℕ → Option A) (stay : Stay) (calls : List Call) (event : ℕ) (kept : List (Option A)) (number : ℕ)
    → StandsFor read stay calls event kept → event * stay.info.bn ≤ number → number < event * stay.info.bn + window_of stay.info
    → get_or kept (number - event * stay.info.bn) None ≡ heard read stay calls number
kept_at read stay calls event kept number stands least below = grind (arith, get_or-map-range_with_len)

hear_repeat : {A : Type 0} (read : List ℕ → Option A) (stay : Stay) (calls : List Call) (event : ℕ) (kept : List (Option A)) (number : ℕ) (octets : List ℕ)
    → StandsFor read stay calls event kept → event * stay.info.bn ≤ number → number < event * stay.info.bn + window_of stay.info
    → is_some (get_or kept (number - event * stay.info.bn) None) ≡ true → StandsFor read stay (hear number octets ∷ calls) event kept
hear_repeat read stay calls event kept number octets stands least below some =
    grind (arith, kept_at, cases_option, false≢true, hear_same, same_at, heard_kept)

hear_kept : {A : Type 0} (read : List ℕ → Option A) (stay : Stay) (calls : List Call) (event : ℕ) (kept : List (Option A)) (number : ℕ) (octets : List ℕ) (part : A)
    → 1 ≤ stay.info.bn → StandsFor read stay calls event kept
    → event * stay.info.bn ≤ number → number < event * stay.info.bn + window_of stay.info
    → is_some (get_or kept (number - event * stay.info.bn) None) ≡ false → read octets ≡ Some part
    → StandsFor read stay (hear number octets ∷ calls) event (set kept (number - event * stay.info.bn) (Some part))
hear_kept read stay calls event kept number octets part some stands least below free reads =
    let at : get_or kept (number - event * stay.info.bn) None ≡ heard read stay calls number =
    kept_at read stay calls event kept number stands least below in
    let index : event * stay.info.bn + (number - event * stay.info.bn) ≡ number = omega arith in
    let nothing : heard read stay calls number ≡ None = grind (arith, cases_option, true≢false) in
    let entered : heard read stay (hear number octets ∷ calls) number ≡ Some part = grind (arith, heard_new, entry_here, window_is) in
    record { event_is = stands.event_is; kept_is = grind (arith, map_changed, other_same) }

hear_placed : {A : Type 0} (read : List ℕ → Option A) (stay : Stay) (calls : List Call) (event : ℕ) (kept : List (Option A)) (number : ℕ) (octets : List ℕ) (part : A)
    → 1 ≤ stay.info.bn → StandsFor read stay calls event kept → read octets ≡ Some part → (low inside full : Bool)
    → ltb number (event * stay.info.bn) ≡ low → ltb number (event * stay.info.bn + window_of stay.info) ≡ inside
    → is_some (get_or kept (number - event * stay.info.bn) None) ≡ full
    → StandsFor read stay (hear number octets ∷ calls) event (kept_by (cond low Late (cond inside (cond full Repeat Kept) Beyond)) kept (number - event * stay.info.bn) (Some part))
hear_placed read stay calls event kept number octets part some stands reads true inside full is_low is_inside is_full =
    hear_outside read stay calls event kept number octets stands (λ within.
    let least : event * stay.info.bn ≤ number = window_least stay event number some within in
    let below : number < event * stay.info.bn = ltb-true number (event * stay.info.bn) is_low in
    omega arith)
hear_placed read stay calls event kept number octets part some stands reads false false full is_low is_inside is_full =
    hear_outside read stay calls event kept number octets stands (λ within.
    let below : number < event * stay.info.bn + window_of stay.info = window_below stay event number some within.1 in
    let past : event * stay.info.bn + window_of stay.info ≤ number = ltb-false number (event * stay.info.bn + window_of stay.info) is_inside in
    omega arith)
hear_placed read stay calls event kept number octets part some stands reads false true true is_low is_inside is_full =
    hear_repeat read stay calls event kept number octets stands (ltb-false number (event * stay.info.bn) is_low)
    (ltb-true number (event * stay.info.bn + window_of stay.info) is_inside) is_full
hear_placed read stay calls event kept number octets part some stands reads false true false is_low is_inside is_full =
    hear_kept read stay calls event kept number octets part some stands (ltb-false number (event * stay.info.bn) is_low)
    (ltb-true number (event * stay.info.bn + window_of stay.info) is_inside) is_full reads

hear_read : {A : Type 0} (takes : Content → Option A) (stay : Stay) (calls : List Call) (event : ℕ) (kept : List (Option A)) (number : ℕ) (octets : List ℕ)
    → 1 ≤ stay.info.bn → StandsFor (read_as takes stay.info.max_pdu) stay calls event kept
    → (taken : Option A) → read_as takes stay.info.max_pdu octets ≡ taken
    → StandsFor (read_as takes stay.info.max_pdu) stay (hear number octets ∷ calls) event
    (kept_by (of_framing taken (placing stay.info event kept number)) kept (number - event * stay.info.bn) taken)
hear_read takes stay calls event kept number octets some stands None is =
    hear_unread (read_as takes stay.info.max_pdu) stay calls event kept number octets stands is
hear_read takes stay calls event kept number octets some stands (Some part) is =
    hear_placed (read_as takes stay.info.max_pdu) stay calls event kept number octets part some stands is
    (ltb number (event * stay.info.bn)) (ltb number (event * stay.info.bn + window_of stay.info))
    (is_some (get_or kept (number - event * stay.info.bn) None)) refl refl refl

-- after a PDU, whatever it is
pub stands_hear : {A : Type 0} (takes : Content → Option A) (stay : Stay) (calls : List Call) (event : ℕ) (kept : List (Option A)) (number : ℕ) (octets : List ℕ)
    → 1 ≤ stay.info.bn → StandsFor (read_as takes stay.info.max_pdu) stay calls event kept
    → StandsFor (read_as takes stay.info.max_pdu) stay (hear number octets ∷ calls) event (kept_after takes stay.info event kept number octets)
stands_hear takes stay calls event kept number octets some stands = grind (arith, hear_read, hear_unread)

-- after a close
pub stands_close : {A : Type 0} (read : List ℕ → Option A) (stay : Stay) (calls : List Call) (event : ℕ) (kept : List (Option A))
    → 1 ≤ stay.info.bn → StandsFor read stay calls event kept
    → StandsFor read stay (close ∷ calls) (event + 1) (drop stay.info.bn kept ++ replicate stay.info.bn None)
stands_close read stay calls event kept some stands =
    grind (arith, add-mul, map_shifted, cases_option, window_below, heard_within, map_same, heard_same)

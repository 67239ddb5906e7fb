-- The units of a stay are those struck.
use Rattle.isoal_unframed.proofs.Prelude.{ℕ, zero, suc, ◌≡◌, ◌+◌, ◌-◌, ◌*◌, ◌/◌, ◌%◌, ◌<◌, ◌≤◌, List, [], ◌∷◌, ◌++◌, length, map, Option, Some, None, refl, sym, ap, ◌∙◌, subst, arith, AllZip, range_with_len, slice_get, mul-add-div_right, mul-add-mod_self_right, div-eq_of_lt, mod-eq_of_lt, append_assoc, get_or-map-range_with_len, length-map-range_with_len, none-some, same_Some, slice_get-get_or, slice_get_within, Bounds, per_event_of, per_unit_of, Content, fragments_of, laid, Stay, hear, close, opened, FirstHeard, read_as, heard_in, numbers_of, unit_at, units_of, handed, unframed, unit_of, handed_of, time_of}
use Rattle.isoal_base.specs.Stays.{Call}
use Rattle.isoal_base.proofs.Citable.{heard_same, entry_outside, heard_first, map_same}
use Rattle.isoal_unframed.specs.Struck.{Slots, air_at, FromSource, Carried, IsStruck, closed_slots, Struck}
use Rattle.isoal_unframed.proofs.Laid.{Agrees, Carries, carried_unit, unit_carried, padding_none, fragments_fit}
use Rattle.isoal_unframed.proofs.Places.{slot_fits}

-- the number at a place of a slot
in_event : (bn e i : ℕ) → i < bn → (e * bn + i) / bn ≡ e
in_event bn e i below = grind (arith, mul-add-div_right, div-eq_of_lt)

at_place : (bn e i : ℕ) → i < bn → (e * bn + i) % bn ≡ i
at_place bn e i below = mul-add-mod_self_right e bn i ∙ mod-eq_of_lt below

pub get-range : {A : Type 0} (f : ℕ → A) (start n r : ℕ) → r < n → slice_get (map f (range_with_len start n)) r ≡ Some (f (start + r))
get-range f start n r below =
    let within : r < length (map f (range_with_len start n)) = subst (λ k. r < k) (sym (length-map-range_with_len f start n)) below in
    slice_get-get_or (map f (range_with_len start n)) r (f start) within
    ∙ ap Some (get_or-map-range_with_len f start n r (start + r) (f start) below refl)

range-get : {A : Type 0} (f : ℕ → A) (start n r : ℕ) (x : A) → slice_get (map f (range_with_len start n)) r ≡ Some x
    → (r < n) × (f (start + r) ≡ x)
range-get f start n r x is = grind (arith, length-map-range_with_len, slice_get_within, map, range_with_len, same_Some, get-range)

-- what is kept of a closed event stays
opened_later : (stay : Stay) (later calls : List Call) → opened stay calls ≤ opened stay (later ++ calls)
opened_later stay [] calls = omega arith
opened_later stay (hear number octets ∷ later) calls = opened_later stay later calls
opened_later stay (close ∷ later) calls = grind (arith, opened_later stay later calls)

closed_same : (stay : Stay) (later calls : List Call) (number : ℕ) → number / stay.info.bn < opened stay calls
    → heard_in stay (later ++ calls) number ≡ heard_in stay calls number
closed_same stay [] calls number below = refl
closed_same stay (close ∷ later) calls number below =
    heard_same (read_as unframed stay.info.max_pdu) stay close (later ++ calls) number refl ∙ closed_same stay later calls number below
closed_same stay (hear given octets ∷ later) calls number below =
    let still : opened stay calls ≤ opened stay (later ++ calls) = opened_later stay later calls in
    heard_same (read_as unframed stay.info.max_pdu) stay (hear given octets) (later ++ calls) number
    (grind (arith, entry_outside, read_as, unframed, opened)) ∙ closed_same stay later calls number below

-- each kept PDU is the source's own
agrees_source : (stay : Stay) (slots : Slots) (calls : List Call) (number : ℕ) (content : Content) → FromSource stay slots calls
    → heard_in stay calls number ≡ Some content → content ≡ air_at stay slots number
agrees_source stay slots calls number content source is =
    let first : FirstHeard (read_as unframed stay.info.max_pdu) stay number content calls =
    heard_first (read_as unframed stay.info.max_pdu) stay number content calls is in
    source first.later number first.octets first.earlier content first.is_split first.enters.reads

slot_agrees : (stay : Stay) (slots : Slots) (calls : List Call) (event slot : ℕ) → Bounds stay.info → stay.info.framing ≡ 0
    → slot < per_event_of stay.info → FromSource stay slots calls
    → Agrees stay.info.max_pdu (slots event slot) (map (heard_in stay calls) (numbers_of stay event slot))
slot_agrees stay slots calls event slot bounds plain below source r content is =
    let m : ℕ = per_unit_of stay.info in
    let at : (r < per_unit_of stay.info) × (heard_in stay calls (event * stay.info.bn + slot * per_unit_of stay.info + r) ≡ Some content) =
    range-get (heard_in stay calls) (event * stay.info.bn + slot * per_unit_of stay.info) (per_unit_of stay.info) r (Some content) is in
    let fits : slot * per_unit_of stay.info + per_unit_of stay.info ≤ per_event_of stay.info * per_unit_of stay.info =
    slot_fits slot (per_event_of stay.info) (per_unit_of stay.info) below in
    let all : stay.info.bn ≡ per_event_of stay.info * per_unit_of stay.info = bounds.whole_slots plain in
    let in_slot : r < per_unit_of stay.info = at.0 in
    let inside : slot * per_unit_of stay.info + r < stay.info.bn = subst (λ n. slot * per_unit_of stay.info + r < n) (sym all) (omega arith) in
    let number : event * stay.info.bn + slot * per_unit_of stay.info + r ≡ event * stay.info.bn + (slot * per_unit_of stay.info + r) = omega arith in
    agrees_source stay slots calls (event * stay.info.bn + slot * per_unit_of stay.info + r) content source at.1
    ∙ ap (air_at stay slots) number
    ∙ ap (λ e. laid stay.info.max_pdu (slots e ((event * stay.info.bn + (slot * per_unit_of stay.info + r)) % stay.info.bn / per_unit_of stay.info))
    ((event * stay.info.bn + (slot * per_unit_of stay.info + r)) % stay.info.bn % per_unit_of stay.info))
    (in_event stay.info.bn event (slot * per_unit_of stay.info + r) inside)
    ∙ ap (λ i. laid stay.info.max_pdu (slots event (i / per_unit_of stay.info)) (i % per_unit_of stay.info))
    (at_place stay.info.bn event (slot * per_unit_of stay.info + r) inside)
    ∙ ap (λ j. laid stay.info.max_pdu (slots event j) ((slot * per_unit_of stay.info + r) % per_unit_of stay.info))
    (in_event (per_unit_of stay.info) slot r in_slot)
    ∙ ap (laid stay.info.max_pdu (slots event slot)) (at_place (per_unit_of stay.info) slot r in_slot)

-- the unit of one slot
slot_carried : (stay : Stay) (slots : Slots) (calls : List Call) (event slot : ℕ) (unit : List ℕ) → Bounds stay.info
    → length unit ≤ stay.info.max_sdu → Carried stay slots calls event slot unit
    → Carries stay.info.max_pdu unit (map (heard_in stay calls) (numbers_of stay event slot))
slot_carried stay slots calls event slot unit bounds fits carried r below =
    let room : fragments_of stay.info.max_pdu unit ≤ per_unit_of stay.info =
    fragments_fit stay.info.max_pdu stay.info.max_sdu unit bounds.max_pdu_least bounds.max_sdu fits in
    let here : (content : Content) × (heard_in stay calls (event * stay.info.bn + slot * per_unit_of stay.info + r) ≡ Some content) =
    carried.heard_all r below in (
      here.0,
      grind (arith, get-range, heard_in, per_unit_of, fragments_of),
    )

carried_slot : (stay : Stay) (slots : Slots) (calls : List Call) (event slot : ℕ) (unit : List ℕ) → slots event slot ≡ Some unit
    → Carries stay.info.max_pdu unit (map (heard_in stay calls) (numbers_of stay event slot)) → Carried stay slots calls event slot unit
carried_slot stay slots calls event slot unit has carries = record {
  has = has;
  heard_all = λ r below.
      let at : (content : Content) × (slice_get (map (heard_in stay calls) (numbers_of stay event slot)) r ≡ Some (Some content)) = carries r below in
      (at.0, (range-get (heard_in stay calls) (event * stay.info.bn + slot * per_unit_of stay.info) (per_unit_of stay.info) r (Some at.0) at.1).1);
}

struck_of : (stay : Stay) (slots : Slots) (calls : List Call) (event slot : ℕ) → Bounds stay.info → stay.info.framing ≡ 0
    → slot < per_event_of stay.info → ((unit : List ℕ) → slots event slot ≡ Some unit → length unit ≤ stay.info.max_sdu)
    → FromSource stay slots calls → (has given : Option (List ℕ)) → slots event slot ≡ has
    → unit_of stay.info.max_sdu (map (heard_in stay calls) (numbers_of stay event slot)) ≡ given
    → IsStruck stay slots calls event slot (handed_of stay.bis (time_of stay event slot) given)
struck_of stay slots calls event slot bounds plain below fits source None None has given = grind (arith, none-some)
struck_of stay slots calls event slot bounds plain below fits source (Some unit) None has given = (
  refl,
  refl,
  λ other carried.
      let same : other ≡ unit = same_Some other unit (sym carried.has ∙ has) in
      let short : length unit ≤ stay.info.max_sdu = fits unit has in
      none-some unit (sym given
      ∙ carried_unit stay.info.max_pdu stay.info.max_sdu [] unit (map (heard_in stay calls) (numbers_of stay event slot)) bounds.max_pdu_least short
      (grind (arith, slot_agrees stay slots calls event slot bounds plain below source))
      (slot_carried stay slots calls event slot unit bounds short (subst (Carried stay slots calls event slot) same carried))),
)
struck_of stay slots calls event slot bounds plain below fits source None (Some octets) has given =
    absurd (none-some octets (sym (padding_none stay.info.max_pdu stay.info.max_sdu [] (map (heard_in stay calls) (numbers_of stay event slot))
    (grind (arith, slot_agrees stay slots calls event slot bounds plain below source))) ∙ given))
struck_of stay slots calls event slot bounds plain below fits source (Some unit) (Some octets) has given =
    let both : Carries stay.info.max_pdu unit (map (heard_in stay calls) (numbers_of stay event slot)) × (octets ≡ unit) =
    unit_carried stay.info.max_pdu stay.info.max_sdu [] unit (map (heard_in stay calls) (numbers_of stay event slot)) octets bounds.max_pdu_least
    (grind (arith, slot_agrees stay slots calls event slot bounds plain below source)) given in
    (refl, refl, subst (Carried stay slots calls event slot) (sym both.1) (carried_slot stay slots calls event slot unit has both.0))

-- the units of one closed event
unit_stays : (stay : Stay) (later calls : List Call) (slot : ℕ) → Bounds stay.info → stay.info.framing ≡ 0 → slot < per_event_of stay.info
    → unit_at stay calls (opened stay calls) slot ≡ unit_at stay (later ++ close ∷ calls) (opened stay calls) slot
unit_stays stay later calls slot bounds plain below =
    let fits : slot * per_unit_of stay.info + per_unit_of stay.info ≤ per_event_of stay.info * per_unit_of stay.info =
    slot_fits slot (per_event_of stay.info) (per_unit_of stay.info) below in
    let all : stay.info.bn ≡ per_event_of stay.info * per_unit_of stay.info = bounds.whole_slots plain in
    let room : slot * per_unit_of stay.info + per_unit_of stay.info ≤ stay.info.bn =
    subst (λ n. slot * per_unit_of stay.info + per_unit_of stay.info ≤ n) (sym all) fits in
    ap (λ xs. handed_of stay.bis (time_of stay (opened stay calls) slot) (unit_of stay.info.max_sdu xs))
    (map_same (heard_in stay calls) (heard_in stay (later ++ close ∷ calls)) (opened stay calls * stay.info.bn + slot * per_unit_of stay.info) (per_unit_of stay.info)
    (λ number least under.
    let index : opened stay calls * stay.info.bn + (number - opened stay calls * stay.info.bn) ≡ number = omega arith in
    let event : number / stay.info.bn ≡ opened stay calls =
    ap (λ n. n / stay.info.bn) (sym index) ∙ in_event stay.info.bn (opened stay calls) (number - opened stay calls * stay.info.bn) (omega arith) in
    sym (grind (arith, closed_same, close, heard_same, read_as, unframed))))

all_zip_maps : {A B : Type 0} (R : A → B → Type 0) (f : ℕ → A) (g : ℕ → B) (start n : ℕ)
    → ((i : ℕ) → start ≤ i → i < start + n → R (f i) (g i)) → AllZip R (map f (range_with_len start n)) (map g (range_with_len start n))
all_zip_maps R f g start zero each = tt
all_zip_maps R f g start (suc n) each =
    (each start (omega arith) (omega arith), all_zip_maps R f g (start + 1) n (λ i least below. each i (omega arith) (omega arith)))

pub all_zip_append : {A B : Type 0} (R : A → B → Type 0) (xs xs' : List A) (ys ys' : List B) → AllZip R xs ys → AllZip R xs' ys'
    → AllZip R (xs ++ xs') (ys ++ ys')
all_zip_append R [] xs' [] ys' first rest = rest
all_zip_append R [] xs' (y ∷ ys) ys' first rest = absurd first
all_zip_append R (x ∷ xs) xs' [] ys' first rest = absurd first
all_zip_append R (x ∷ xs) xs' (y ∷ ys) ys' first rest = (first.0, all_zip_append R xs xs' ys ys' first.1 rest)

struck_from : (stay : Stay) (slots : Slots) (calls : List Call) → Bounds stay.info → stay.info.framing ≡ 0
    → ((event slot : ℕ) (unit : List ℕ) → slots event slot ≡ Some unit → length unit ≤ stay.info.max_sdu) → FromSource stay slots calls
    → (later earlier : List Call) → calls ≡ later ++ earlier
    → AllZip (λ place entry. IsStruck stay slots calls place.event place.slot entry) (closed_slots stay earlier) (handed stay earlier)
struck_from stay slots calls bounds plain fits source later [] is = tt
struck_from stay slots calls bounds plain fits source later (hear number octets ∷ earlier) is =
    struck_from stay slots calls bounds plain fits source (later ++ hear number octets ∷ []) earlier
    (is ∙ sym (append_assoc later (hear number octets ∷ []) earlier))
struck_from stay slots calls bounds plain fits source later (close ∷ earlier) is =
    all_zip_append (λ place entry. IsStruck stay slots calls place.event place.slot entry)
    (closed_slots stay earlier) (map (λ slot. record { event = opened stay earlier; slot = slot }) (range_with_len 0 (per_event_of stay.info)))
    (handed stay earlier) (units_of stay earlier (opened stay earlier))
    (struck_from stay slots calls bounds plain fits source (later ++ close ∷ []) earlier (is ∙ sym (append_assoc later (close ∷ []) earlier)))
    (all_zip_maps (λ place entry. IsStruck stay slots calls place.event place.slot entry)
    (λ slot. record { event = opened stay earlier; slot = slot }) (unit_at stay earlier (opened stay earlier)) 0 (per_event_of stay.info)
    (λ slot least below.
    let under : slot < per_event_of stay.info = omega arith in
    subst (IsStruck stay slots calls (opened stay earlier) slot)
    (sym (unit_stays stay later earlier slot bounds plain under ∙ ap (λ all. unit_at stay all (opened stay earlier) slot) (sym is)))
    (struck_of stay slots calls (opened stay earlier) slot bounds plain under (fits (opened stay earlier) slot) source
    (slots (opened stay earlier) slot) (unit_of stay.info.max_sdu (map (heard_in stay calls) (numbers_of stay (opened stay earlier) slot))) refl refl)))

pub units_struck : (stay : Stay) (slots : Slots) (calls : List Call) → Bounds stay.info → stay.info.framing ≡ 0
    → ((event slot : ℕ) (unit : List ℕ) → slots event slot ≡ Some unit → length unit ≤ stay.info.max_sdu) → FromSource stay slots calls
    → Struck stay slots calls (handed stay calls)
units_struck stay slots calls bounds plain fits source = struck_from stay slots calls bounds plain fits source [] calls refl

-- What is handed of one stream.
use Rattle.group_sink.proofs.Prelude.{ℕ, zero, suc, ◌≡◌, ◌≢◌, ◌+◌, ◌-◌, ◌<◌, ◌≤◌, Bool, true, cond, eqb, leb, List, [], ◌∷◌, ◌++◌, map, drop, length, Option, Some, refl, sym, ap, ◌∙◌, inl, inr, arith, AllByRecursion, Contains, flat_map, range_with_len, cases_Bool, cases_eq, cond-true, cond-false, eq-eqb, ne_eqb, append-nil, filter-append, Handed, Stay, opened, unit_at, units_of, handed, closed_tokens, decided, event_tokens, gained, Call, tune, hear, tick, leave, place, BigSync, units_at_close, units_on, handed_by, handed_at, handed_since, bis_of, of_stream, is_in, number_of, stay_on, stream_calls, streams_of, with_hear, close_gains, decides_nothing}
use Rattle.isoal_base.specs.Stays as stays
use Rattle.isoal_unframed.specs.State.Windows.{handed_of}
use Rattle.isoal_framed.specs.Tokens.{Token, starts, goes_on, missing}
use Rattle.isoal_framed.specs.Units.{Fate, whole, broken, undecided, fate_at, units, handed_of as handed_fate}
use Rattle.group_sink.proofs.Sets.{flat_map_filter, is_member, member_is}

of_append : (bis : ℕ) (xs ys : List Handed) → of_stream bis (xs ++ ys) ≡ of_stream bis xs ++ of_stream bis ys
of_append bis xs ys = filter-append (λ entry. eqb (bis_of entry) bis) xs ys

of_flat_map : (bis : ℕ) (f : ℕ → List Handed) (xs : List ℕ) → of_stream bis (flat_map f xs) ≡ flat_map (λ x. of_stream bis (f x)) xs
of_flat_map bis f [] = refl
of_flat_map bis f (x ∷ xs) = of_append bis (f x) (flat_map f xs) ∙ ap (λ ys. of_stream bis (f x) ++ ys) (of_flat_map bis f xs)

all_or_none : (taken : Bool) (entry : Handed) (rest entries : List Handed) → rest ≡ cond taken entries []
    → cond taken (entry ∷ rest) rest ≡ cond taken (entry ∷ entries) []
all_or_none taken entry rest entries is = grind arith

none_either : (taken : Bool) → [] ≡ cond taken (let none : List Handed = [] in none) []
none_either taken = grind arith

-- units of one stream
abbrev AllOf : ℕ → List Handed → Type 0
AllOf own units = AllByRecursion (λ unit. bis_of unit ≡ own) units

of_all : (own bis : ℕ) (units : List Handed) → AllOf own units → of_stream bis units ≡ cond (eqb own bis) units []
of_all own bis [] all = none_either (eqb own bis)
of_all own bis (unit ∷ units) all = grind (arith, all.0, all_or_none (eqb own bis) unit (of_stream bis units) units (of_all own bis units all.1))

all_append : (own : ℕ) (xs ys : List Handed) → AllOf own xs → AllOf own ys → AllOf own (xs ++ ys)
all_append own [] ys first second = second
all_append own (x ∷ xs) ys first second = (first.0, all_append own xs ys first.1 second)

all_drop : (own n : ℕ) (xs : List Handed) → AllOf own xs → AllOf own (drop n xs)
all_drop own (suc n) (x ∷ xs) all = all_drop own n xs all.1
all_drop own n xs all = search

-- the units of a slot, of an event and of tokens
slot_bis : (bis time : ℕ) (unit : Option (List ℕ)) → bis_of (handed_of bis time unit) ≡ bis
slot_bis bis time unit = grind arith

all_slots : (stay : Stay) (calls : List stays.Call) (event : ℕ) (slots : List ℕ) → AllOf stay.bis (map (unit_at stay calls event) slots)
all_slots stay calls event [] = tt
all_slots stay calls event (slot ∷ slots) = (slot_bis stay.bis _ _, all_slots stay calls event slots)

all_fates : (bis time : ℕ) (fate : Fate) → AllOf bis (handed_fate bis time fate)
all_fates bis time (whole octets) = (refl, tt)
all_fates bis time broken = (refl, tt)
all_fates bis time (undecided octets) = tt

all_tokens : (max_sdu bis : ℕ) (tokens : List Token) → AllOf bis (units max_sdu bis tokens)
all_tokens max_sdu bis [] = tt
all_tokens max_sdu bis (starts time complete octets ∷ tokens) =
    all_append bis (handed_fate bis time (fate_at max_sdu complete octets tokens)) (units max_sdu bis tokens)
    (all_fates bis time (fate_at max_sdu complete octets tokens)) (all_tokens max_sdu bis tokens)
all_tokens max_sdu bis (goes_on complete octets ∷ tokens) = all_tokens max_sdu bis tokens
all_tokens max_sdu bis (missing ∷ tokens) = all_tokens max_sdu bis tokens

all_either : (own : ℕ) (plainly : Bool) (xs ys : List Handed) → AllOf own xs → AllOf own ys → AllOf own (cond plainly xs ys)
all_either own plainly xs ys first second = grind arith

all_at_close : (stay : Stay) (calls : List stays.Call) → AllOf stay.bis (units_at_close stay calls)
all_at_close stay calls =
    all_either stay.bis (eqb stay.info.framing 0) (units_of stay calls (opened stay calls)) (gained stay calls) (all_slots stay calls (opened stay calls) _)
    (all_drop stay.bis (length (decided stay calls)) (decided stay (stays.close ∷ calls)) (all_tokens stay.info.max_sdu stay.bis (closed_tokens stay (stays.close ∷ calls))))

of_units : (over : Bool) (bis : ℕ) (stay : Stay) (calls : List stays.Call)
    → of_stream bis (cond over (units_at_close stay calls) []) ≡ cond (eqb stay.bis bis) (cond over (units_at_close stay calls) []) []
of_units over bis stay calls = grind (arith, of_all, cond, units_at_close, all_either, all_at_close)

-- of a range of streams, what one of them hands
none_of : (g : ℕ → List Handed) (start n : ℕ) → ((c : ℕ) → start ≤ c → c < start + n → g c ≡ []) → flat_map g (range_with_len start n) ≡ []
none_of g start zero none = refl
none_of g start (suc n) none = grind (arith, none start (omega arith) (omega arith), none_of g (start + 1) n (λ c least below. none c (omega arith) (omega arith)))

one_of : (g : ℕ → List Handed) (bis start n : ℕ) → start ≤ bis → bis < start + n → ((c : ℕ) → c ≢ bis → g c ≡ [])
    → flat_map g (range_with_len start n) ≡ g bis
one_of g bis start zero least below others = absurd (omega arith)
one_of g bis start (suc n) least below others = elim (cases_eq start bis) [
  | inl same ↦ grind (arith, none_of, append-nil)
  | inr apart ↦
      ap (λ xs. xs ++ flat_map g (range_with_len (start + 1) n)) (others start apart)
      ∙ one_of g bis (start + 1) n (omega arith) (omega arith) others
]

-- what a tick hands of a stream
abbrev part : ℕ → List Call → BigSync → ℕ → ℕ → List Handed
part event calls big_sync bis c = of_stream bis (cond (is_in big_sync.which c) (units_on event calls big_sync c) [])

parts : (event : ℕ) (calls : List Call) (big_sync : BigSync) (bis : ℕ)
    → of_stream bis (handed_by event calls (Some big_sync)) ≡ flat_map (part event calls big_sync bis) (range_with_len 1 31)
parts event calls big_sync bis =
    ap (of_stream bis) (sym (flat_map_filter (is_in big_sync.which) (units_on event calls big_sync) (range_with_len 1 31)))
    ∙ of_flat_map bis (λ c. cond (is_in big_sync.which c) (units_on event calls big_sync c) []) (range_with_len 1 31)

part_cases : (taken own : Bool) (bis : ℕ) (units : List Handed) → of_stream bis units ≡ cond own units []
    → of_stream bis (cond taken units []) ≡ cond taken (cond own units []) []
part_cases taken own bis units is = grind arith

part_is : (event : ℕ) (calls : List Call) (big_sync : BigSync) (bis c : ℕ)
    → part event calls big_sync bis c ≡ cond (is_in big_sync.which c) (cond (eqb c bis) (units_on event calls big_sync c) []) []
part_is event calls big_sync bis c =
    part_cases (is_in big_sync.which c) (eqb c bis) bis (units_on event calls big_sync c)
    (of_units (leb (opened (stay_on big_sync c) (stream_calls (stay_on big_sync c) calls)) event) bis (stay_on big_sync c) (stream_calls (stay_on big_sync c) calls))

nothing : (taken : Bool) → cond taken (let none : List Handed = [] in none) [] ≡ []
nothing taken = grind arith

part_other : (event : ℕ) (calls : List Call) (big_sync : BigSync) (bis c : ℕ) → c ≢ bis → part event calls big_sync bis c ≡ []
part_other event calls big_sync bis c apart = grind (arith, part_is, cond, is_in, cond-false, eqb, units_on, ne_eqb, nothing)

of_tick : (event : ℕ) (calls : List Call) (big_sync : BigSync) (bis : ℕ) → Contains (streams_of big_sync.which) bis
    → of_stream bis (handed_by event calls (Some big_sync)) ≡ units_on event calls big_sync bis
of_tick event calls big_sync bis at =
    let is : (is_in big_sync.which bis ≡ true) × (1 ≤ bis) × (bis ≤ 31) = member_is big_sync.which bis at in
    parts event calls big_sync bis
    ∙ one_of (part event calls big_sync bis) bis 1 31 is.1 (omega arith) (part_other event calls big_sync bis)
    ∙ part_is event calls big_sync bis bis
    ∙ cond-true (is_in big_sync.which bis) (cond (eqb bis bis) (units_on event calls big_sync bis) []) [] is.0
    ∙ cond-true (eqb bis bis) (units_on event calls big_sync bis) [] (eq-eqb bis bis refl)

of_no_tick : (event : ℕ) (calls : List Call) (big_sync : BigSync) (bis : ℕ) → ¬ Contains (streams_of big_sync.which) bis
    → of_stream bis (handed_by event calls (Some big_sync)) ≡ []
of_no_tick event calls big_sync bis out =
    parts event calls big_sync bis ∙ none_of (part event calls big_sync bis) 1 31 (λ c least below. elim (cases_eq c bis) [
      | inr apart ↦ part_other event calls big_sync bis c apart
      | inl same ↦ grind (arith, cases_Bool, is_in, streams_of, is_member, part_is, cond-false, cond, eqb, units_on)
    ])

-- what grows by each close of a stream's stay by what it hands is all that was handed of the stream
hear_hands : (f : List stays.Call → List Handed) → ((number : ℕ) → (octets : List ℕ) → (calls : List stays.Call) → f (stays.hear number octets ∷ calls) ≡ f calls)
    → (own : Bool) (number : Option ℕ) (octets : List ℕ) (calls : List stays.Call) → f (cond own (with_hear number octets calls) calls) ≡ f calls
hear_hands f hears own number octets calls = grind arith

close_hands : (f : List stays.Call → List Handed) (over : Bool) (calls : List stays.Call) (units : List Handed)
    → f (stays.close ∷ calls) ≡ f calls ++ units → f (cond over (stays.close ∷ calls) calls) ≡ f calls ++ cond over units []
close_hands f over calls units is = grind (arith, append-nil)

record Adds (stay : Stay) (f : List stays.Call → List Handed) : Type 0 where
  begins : f [] ≡ []
  hears : (number : ℕ) → (octets : List ℕ) → (calls : List stays.Call) → f (stays.hear number octets ∷ calls) ≡ f calls
  closes : (calls : List stays.Call) → f (stays.close ∷ calls) ≡ f calls ++ units_at_close stay calls

stream_hands : (big_sync : BigSync) (bis : ℕ) (f : List stays.Call → List Handed) → Adds (stay_on big_sync bis) f → (calls : List Call)
    → place calls ≡ Some big_sync → Contains (streams_of big_sync.which) bis → of_stream bis (handed_since calls) ≡ f (stream_calls (stay_on big_sync bis) calls)
stream_hands big_sync bis f adds [] is at = sym adds.begins
stream_hands big_sync bis f adds (tune other ∷ calls) is at = sym adds.begins
stream_hands big_sync bis f adds (hear event other subevent octets ∷ calls) is at =
    stream_hands big_sync bis f adds calls is at
    ∙ sym (hear_hands f adds.hears (eqb other bis) (number_of big_sync.info event subevent) octets (stream_calls (stay_on big_sync bis) calls))
stream_hands big_sync bis f adds (tick event ∷ calls) is at =
    of_append bis (handed_since calls) (handed_at calls event)
    ∙ ap (λ xs. xs ++ of_stream bis (handed_at calls event)) (stream_hands big_sync bis f adds calls is at)
    ∙ ap (λ xs. f (stream_calls (stay_on big_sync bis) calls) ++ xs)
    (ap (λ p. of_stream bis (handed_by event calls p)) is ∙ of_tick event calls big_sync bis at)
    ∙ sym (grind (arith, close_hands, leb, opened, stay_on, stream_calls))
stream_hands big_sync bis f adds (leave ∷ calls) is at = sym adds.begins

pub unframed_hands : (big_sync : BigSync) (calls : List Call) (bis : ℕ) → big_sync.info.framing ≡ 0 → place calls ≡ Some big_sync
    → Contains (streams_of big_sync.which) bis → of_stream bis (handed_since calls) ≡ handed (stay_on big_sync bis) (stream_calls (stay_on big_sync bis) calls)
unframed_hands big_sync calls bis plain is at =
    let stay : Stay = stay_on big_sync bis in
    stream_hands big_sync bis (handed stay) (grind (arith, handed, cond-true, eqb, units_of, opened, gained, eq-eqb)) calls is at

pub framed_hands : (big_sync : BigSync) (calls : List Call) (bis : ℕ) → big_sync.info.framing ≡ 1 → place calls ≡ Some big_sync
    → Contains (streams_of big_sync.which) bis → of_stream bis (handed_since calls) ≡ decided (stay_on big_sync bis) (stream_calls (stay_on big_sync bis) calls)
framed_hands big_sync calls bis framed is at =
    let stay : Stay = stay_on big_sync bis in
    let none : stay.first - stay.first ≡ 0 = omega arith in
    stream_hands big_sync bis (decided stay) (record {
      begins = ap (λ n. units stay.info.max_sdu bis (flat_map (event_tokens stay []) (range_with_len stay.first n))) none;
      hears = λ number octets past. decides_nothing stay past number octets;
      closes = λ past. close_gains stay past ∙ ap (λ added. decided stay past ++ added)
          (sym (cond-false (eqb big_sync.info.framing 0) (units_of stay past (opened stay past)) (gained stay past) (ap (λ n. eqb n 0) framed)));
    }) calls is at

pub others_hand_nothing : (big_sync : BigSync) (calls : List Call) (bis : ℕ) → place calls ≡ Some big_sync → ¬ Contains (streams_of big_sync.which) bis
    → of_stream bis (handed_since calls) ≡ []
others_hand_nothing big_sync (hear event other subevent octets ∷ calls) bis is out = others_hand_nothing big_sync calls bis is out
others_hand_nothing big_sync (tick event ∷ calls) bis is out = grind (arith, of_append bis (handed_since calls) (handed_at calls event), others_hand_nothing big_sync calls bis is out, of_no_tick event calls big_sync bis out)
others_hand_nothing big_sync calls bis is out = search (of_append, handed_since, handed_at, of_stream, handed_by, of_no_tick)

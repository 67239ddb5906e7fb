-- The entries that a stay on a framed stream decides, each of a start that was heard in it, in the order of these starts.
use Rattle.scenario_laws.proofs.Known.{ℕ, zero, suc, ◌≡◌, ◌<◌, ◌≤◌, ◌+◌, ◌-◌, ◌*◌, ◌/◌, Bool, List, [], ◌∷◌, ◌++◌, map, Option, Some, None, refl, sym, ◌∙◌, ap, subst, arith, inl, inr, append_assoc, slice_get, AllZip, flat_map, range_with_len, add-mul, zero-add, div-mul-add, Part, start, Handed, Stay, opened, decided, event_tokens, heard_in, closed_end, Token, time_of, token_of, tokens_of, Fate, undecided, fate_at, units, opened_least, bis_of, AreInOrder, IsBefore, SegmentPlace, all_zip_append, time_in, ◌||◌, is_some, false, Contains, list_any, div-mul-le_self, mul-le-mul, cases_Bool, append-nil, list_any-append, BigInfo, Setup, next_of, BigSync, of_stream, is_in, stay_on, streams_of, is_member, member_is, Step, steps_of_source, setup_of, source_calls, Airs, sink_calls, Closed, InStartOrder, IsOfStart, calls_on, given_since_made, is_given, is_made, is_tuned, shown_since, more as further, framed_handed_of as handed_of, SourceCall, ticked_since, Below, Legal, true_not_false, Within, next_in, within_before, within_itself, IsOn, OnSource, TunedTo, on_source, rest_not, StayCall, made_alike, length, Account, steps_of, OrderLaw, StepsInOrder, legal, closes_rise, slots_are_shown}
use Rattle.scenario_laws.proofs.UnitsLaw.{since}
use Rattle.scenario_laws.proofs.FramedStays.{heard_least, next_of_whole, opened_within, stay_on_whole}
use Rattle.scenario_laws.proofs.UnitOrder.{event_below, start_time_is, entries_in_order}
use Rattle.scenario_laws.proofs.StaysInTurn.{OverStay, Turns, closed_from, over_stays}
use Rattle.scenario_laws.proofs.InOrder.{units_in_order}

-- ---- places in order, between two payload numbers

-- they stand in order behind this one, all in PDUs below `high`
abbrev pub Behind : SegmentPlace → List SegmentPlace → ℕ → Type 0
Behind at [] high = at.number < high
Behind at (next ∷ places) high = IsBefore at next × Behind next places high

-- they stand in order, all in PDUs from `low` on and below `high`
abbrev pub RiseTo : ℕ → List SegmentPlace → ℕ → Type 0
RiseTo low [] high = low ≤ high
RiseTo low (at ∷ places) high = (low ≤ at.number) × Behind at places high

before_least : (one other : SegmentPlace) → IsBefore one other → one.number ≤ other.number
before_least one other before = elim before [ inl below ↦ omega (arith, below) | inr same ↦ omega (arith, same.0) ]

pub behind_below : (at : SegmentPlace) (places : List SegmentPlace) (high : ℕ) → Behind at places high → at.number < high
behind_below at [] high behind = behind
behind_below at (next ∷ places) high behind = omega (arith, before_least at next behind.0, behind_below next places high behind.1)

behind_more : (at : SegmentPlace) (places : List SegmentPlace) (high more : ℕ) → high ≤ more → Behind at places high → Behind at places more
behind_more at [] high more most behind = omega (arith, most, behind)
behind_more at (next ∷ places) high more most behind = (behind.0, behind_more next places high more most behind.1)

pub rise_more : (low : ℕ) (places : List SegmentPlace) (high more : ℕ) → high ≤ more → RiseTo low places high → RiseTo low places more
rise_more low places high more most rise = grind (arith, behind_more)

behind_on : (at : SegmentPlace) (xs : List SegmentPlace) (middle : ℕ) (ys : List SegmentPlace) (high : ℕ) → Behind at xs middle → RiseTo middle ys high → Behind at (xs ++ ys) high
behind_on at [] middle [] high first rest = omega (arith, first, rest)
behind_on at [] middle (y ∷ ys) high first rest = (inl (omega (arith, first, rest.0)), rest.1)
behind_on at (x ∷ xs) middle ys high first rest = (first.0, behind_on x xs middle ys high first.1 rest)

pub rise_on : (low : ℕ) (xs : List SegmentPlace) (middle : ℕ) (ys : List SegmentPlace) (high : ℕ) → RiseTo low xs middle → RiseTo middle ys high → RiseTo low (xs ++ ys) high
rise_on low xs middle ys high first rest = grind (arith, behind_on)

behind_order : (at : SegmentPlace) (places : List SegmentPlace) (high : ℕ) → Behind at places high → AreInOrder (at ∷ places)
behind_order at [] high behind = tt
behind_order at (next ∷ places) high behind = (behind.0, behind_order next places high behind.1)

-- ---- the entries of a PDU

-- the entry is of the start that the stay heard at this place
pub record AtStart (stay : Stay) (calls : List StayCall) (at : SegmentPlace) (entry : Handed) : Type 0 where
  pub stream : bis_of entry ≡ stay.bis
  pub parts : List Part
  pub heard : heard_in stay calls at.number ≡ Some parts
  pub offset : ℕ
  pub complete : Bool
  pub octets : List ℕ
  pub is_start : slice_get parts at.segment ≡ Some (start offset complete octets)
  pub time_is : time_in entry ≡ time_of stay (at.number / stay.info.bn) offset

-- places in a PDU, from this segment on
abbrev InOnePdu : ℕ → ℕ → List SegmentPlace → Type 0
InOnePdu number segment [] = Unit {0}
InOnePdu number segment (at ∷ places) = (at.number ≡ number) × (segment ≤ at.segment) × InOnePdu number (at.segment + 1) places

within_from : (number segment from : ℕ) (places : List SegmentPlace) → segment ≤ from → InOnePdu number from places → InOnePdu number segment places
within_from number segment from [] least within = tt
within_from number segment from (at ∷ places) least within = (within.0, omega (arith, least, within.1), within.2)

within_behind : (number : ℕ) (at : SegmentPlace) (places : List SegmentPlace) → at.number ≡ number → InOnePdu number (at.segment + 1) places → Behind at places (number + 1)
within_behind number at [] here within = omega (arith, here)
within_behind number at (next ∷ places) here within = (inr (omega (arith, here, within.0), omega (arith, within.1)), within_behind number next places within.0 within.2)

-- entries with their places in a PDU
record InPdu (stay : Stay) (calls : List StayCall) (number segment : ℕ) (entries : List Handed) : Type 0 where
  places : List SegmentPlace
  order : InOnePdu number segment places
  each : AllZip (AtStart stay calls) places entries

none_in : (stay : Stay) (calls : List StayCall) (number segment : ℕ) (entries : List Handed) → InPdu stay calls number (segment + 1) entries → InPdu stay calls number segment entries
none_in stay calls number segment entries rest = grind (arith, within_from)

one_in : (stay : Stay) (calls : List StayCall) (number segment : ℕ) (entry : Handed) (entries : List Handed) → AtStart stay calls (record { number = number; segment = segment }) entry
    → InPdu stay calls number (segment + 1) entries → InPdu stay calls number segment (entry ∷ entries)
one_in stay calls number segment entry entries is rest =
    record { places = record { number = number; segment = segment } ∷ rest.places; order = (refl, omega arith, rest.order); each = (is, rest.each) }

-- a start at this place
record StartsAt (stay : Stay) (calls : List StayCall) (number segment offset time : ℕ) : Type 0 where
  parts : List Part
  heard : heard_in stay calls number ≡ Some parts
  complete : Bool
  octets : List ℕ
  is_start : slice_get parts segment ≡ Some (start offset complete octets)
  time_is : time ≡ time_of stay (number / stay.info.bn) offset

by_fate : (stay : Stay) (calls : List StayCall) (number segment offset time : ℕ) (fate : Fate) (entries : List Handed) → StartsAt stay calls number segment offset time
    → InPdu stay calls number (segment + 1) entries → InPdu stay calls number segment (handed_of stay.bis time fate ++ entries)
by_fate stay calls number segment offset time (undecided octets) entries starts rest = none_in stay calls number segment entries rest
by_fate stay calls number segment offset time fate entries starts rest = search one_in

-- what these segments of a PDU, from one on, give in front of other tokens
abbrev PduGives : Stay → List StayCall → ℕ → ℕ → ℕ → List Token → List Token → Type 0
PduGives stay calls max_sdu number segment tokens rest =
    (own : List Handed) × (units max_sdu stay.bis (tokens ++ rest) ≡ own ++ units max_sdu stay.bis rest) × InPdu stay calls number segment own

pdu_gives : (stay : Stay) (calls : List StayCall) (max_sdu event number : ℕ) (all : List Part) → heard_in stay calls number ≡ Some all → event ≡ number / stay.info.bn
    → (segment : ℕ) (parts : List Part) → ((i : ℕ) → slice_get all (segment + i) ≡ slice_get parts i) → (rest : List Token)
    → PduGives stay calls max_sdu number segment (map (token_of stay event) parts) rest
pdu_gives stay calls max_sdu event number all heard of_event segment [] at rest = ([], refl, record { places = []; order = tt; each = tt })
pdu_gives stay calls max_sdu event number all heard of_event segment (start offset complete octets ∷ parts) at rest =
    let later = pdu_gives stay calls max_sdu event number all heard of_event (segment + 1) parts (λ i. ap (slice_get all) (omega arith) ∙ at (suc i)) rest in
    let fate : Fate = fate_at max_sdu complete octets (map (token_of stay event) parts ++ rest) in
    let time : ℕ = time_of stay event offset in (
      handed_of stay.bis time fate ++ later.0,
      ap (λ us. handed_of stay.bis time fate ++ us) later.1 ∙ sym (append_assoc (handed_of stay.bis time fate) later.0 (units max_sdu stay.bis rest)),
      by_fate stay calls number segment offset time fate later.0 (record {
        parts = all;
        heard = heard;
        complete = complete;
        octets = octets;
        is_start = ap (slice_get all) (omega arith) ∙ at 0;
        time_is = ap (λ e. time_of stay e offset) of_event;
      }) later.2,
    )
pdu_gives stay calls max_sdu event number all heard of_event segment (further complete octets ∷ parts) at rest =
    let later = pdu_gives stay calls max_sdu event number all heard of_event (segment + 1) parts (λ i. ap (slice_get all) (omega arith) ∙ at (suc i)) rest in
    (later.0, later.1, none_in stay calls number segment later.0 later.2)

number_gives : (stay : Stay) (calls : List StayCall) (max_sdu event number : ℕ) (heard : Option (List Part)) → heard_in stay calls number ≡ heard → event ≡ number / stay.info.bn
    → (rest : List Token) → PduGives stay calls max_sdu number 0 (tokens_of stay event heard) rest
number_gives stay calls max_sdu event number None is of_event rest = ([], refl, record { places = []; order = tt; each = tt })
number_gives stay calls max_sdu event number (Some parts) is of_event rest = search (pdu_gives, zero-add)

-- ---- the entries of events

-- entries with their places, in PDUs between two numbers
pub record Told (stay : Stay) (calls : List StayCall) (low high : ℕ) (entries : List Handed) : Type 0 where
  pub places : List SegmentPlace
  pub rise : RiseTo low places high
  pub each : AllZip (AtStart stay calls) places entries

none_told : (stay : Stay) (calls : List StayCall) (low high : ℕ) → low ≤ high → Told stay calls low high []
none_told stay calls low high least = record { places = []; rise = least; each = tt }

told_on : (stay : Stay) (calls : List StayCall) (low middle high : ℕ) (xs ys : List Handed) → Told stay calls low middle xs → Told stay calls middle high ys → Told stay calls low high (xs ++ ys)
told_on stay calls low middle high xs ys first rest = record {
  places = first.places ++ rest.places;
  rise = rise_on low first.places middle rest.places high first.rise rest.rise;
  each = all_zip_append (AtStart stay calls) first.places rest.places xs ys first.each rest.each;
}

-- what so many PDUs of an event give in front of other tokens
abbrev NumbersGive : Stay → List StayCall → ℕ → ℕ → ℕ → ℕ → List Token → Type 0
NumbersGive stay calls max_sdu event number count rest =
    (own : List Handed)
    × (units max_sdu stay.bis (flat_map (λ n. tokens_of stay event (heard_in stay calls n)) (range_with_len number count) ++ rest) ≡ own ++ units max_sdu stay.bis rest)
    × Told stay calls number (number + count) own

numbers_give : (stay : Stay) (calls : List StayCall) (max_sdu event number count : ℕ) → ((n : ℕ) → number ≤ n → n < number + count → event ≡ n / stay.info.bn) → (rest : List Token)
    → NumbersGive stay calls max_sdu event number count rest
numbers_give stay calls max_sdu event number zero of_event rest = ([], refl, none_told stay calls number (number + 0) (omega arith))
numbers_give stay calls max_sdu event number (suc count) of_event rest =
    let others : List Token = flat_map (λ n. tokens_of stay event (heard_in stay calls n)) (range_with_len (number + 1) count) in
    let later = numbers_give stay calls max_sdu event (number + 1) count (λ n least below. of_event n (omega (arith, least)) (omega (arith, below))) rest in
    let first = number_gives stay calls max_sdu event number (heard_in stay calls number) refl (of_event number (omega arith) (omega arith)) (others ++ rest) in
    let end : number + 1 + count ≡ number + suc count = omega arith in (
      first.0 ++ later.0,
      grind (arith, units, append_assoc),
      told_on stay calls number (number + 1) (number + suc count) first.0 later.0 (grind (arith, within_behind))
          (subst (λ high. Told stay calls (number + 1) high later.0) end later.2),
    )

event_of : (bn event number : ℕ) → event * bn ≤ number → number < event * bn + bn → event ≡ number / bn
event_of bn event number least below = grind (arith, div-mul-add)

events_told : (stay : Stay) (calls : List StayCall) (max_sdu first count : ℕ)
    → Told stay calls (first * stay.info.bn) ((first + count) * stay.info.bn) (units max_sdu stay.bis (flat_map (event_tokens stay calls) (range_with_len first count)))
events_told stay calls max_sdu first zero = grind (arith, none_told)
events_told stay calls max_sdu first (suc count) =
    let bn : ℕ = stay.info.bn in
    let others : List Token = flat_map (event_tokens stay calls) (range_with_len (first + 1) count) in
    let own = numbers_give stay calls max_sdu first (first * bn) bn (event_of bn first) others in
    let next : first * bn + bn ≡ (first + 1) * bn = omega (arith, add-mul first 1 bn) in
    let end : first + 1 + count ≡ first + suc count = omega arith in
    subst (λ us. Told stay calls (first * bn) ((first + suc count) * bn) us) (sym own.1)
    (told_on stay calls (first * bn) (first * bn + bn) ((first + suc count) * bn) own.0 (units max_sdu stay.bis others) own.2
    (subst (λ low. Told stay calls low ((first + suc count) * bn) (units max_sdu stay.bis others)) (sym next)
    (subst (λ e. Told stay calls ((first + 1) * bn) (e * bn) (units max_sdu stay.bis others)) end (events_told stay calls max_sdu (first + 1) count))))

-- what a stay decides is of starts that it heard, in PDUs of its closed events
pub decided_told : (stay : Stay) (calls : List StayCall) → Told stay calls (stay.first * stay.info.bn) (closed_end stay calls) (decided stay calls)
decided_told stay calls = grind (arith, opened, opened_least, decided, events_told)

-- ---- the entries of a framed stream over all stays of a sink with a source, whatever was injected: each is of a start that was heard
-- in its stay, in the order of these starts.

-- ---- the steps so far, as a part of all steps

-- these steps and others behind them, of which none makes the sink again
record GoesOn (n : ℕ) (all made : List Step) : Type 0 where
  pub later : List Step
  pub split : all ≡ later ++ made
  pub same_sink : list_any (is_made n made) later ≡ false

neither : (a b : Bool) → a ≡ false → b ≡ false → (a || (b || false)) ≡ false
neither a b first second = grind (arith, true_not_false)

went_on : (n : ℕ) (all : List Step) (step : Step) (earlier : List Step) → is_made n earlier step ≡ false → GoesOn n all (step ∷ earlier) → GoesOn n all earlier
went_on n all step earlier still goes = record {
  later = goes.later ++ step ∷ [];
  split = goes.split ∙ sym (append_assoc goes.later (step ∷ []) earlier);
  same_sink = grind (arith, list_any-append, is_made, neither, list_any, made_alike);
}

-- ---- the starts of one stay, by all steps

abbrev setup_in : List Step → ℕ → Setup
setup_in all s = setup_of (steps_of_source s all)

abbrev calls_in : List Step → ℕ → List SourceCall
calls_in all s = source_calls (steps_of_source s all)

-- a stay of the sink on a stream of the source
record IsStay (airs : Airs) (all : List Step) (s n bis : ℕ) (made : List Step) (tuning : BigSync) : Type 0 where
  pub goes : GoesOn n all made
  pub is : IsOn airs s n made tuning
  pub taken : Contains (streams_of tuning.which) bis
  pub to : TunedTo (setup_in all s) tuning
  pub opens : opened (stay_on tuning bis) (calls_on airs made n tuning bis) ≤ next_of (setup_in all s) (calls_in all s)

one_start : (airs : Airs) (all : List Step) (s n bis : ℕ) (made : List Step) (tuning : BigSync) (at : SegmentPlace) (entry : Handed) → IsStay airs all s n bis made tuning
    → at.number < closed_end (stay_on tuning bis) (calls_on airs made n tuning bis) → AtStart (stay_on tuning bis) (calls_on airs made n tuning bis) at entry
    → IsOfStart airs all s n bis at entry
one_start airs all s n bis made tuning at entry stay below starts =
    let calls : List StayCall = calls_on airs made n tuning bis in
    let event : ℕ = at.number / tuning.info.bn in
    let bn_is : tuning.info.bn ≡ (setup_in all s).info.bn = ap (λ (i : BigInfo). i.bn) stay.to.info in
    let first_event : tuning.first ≤ event = heard_least (stay_on tuning bis) calls at.number (ap is_some starts.heard) in
    let performed_then : event < opened (stay_on tuning bis) calls =
    event_below event at.number (opened (stay_on tuning bis) calls) tuning.info.bn (div-mul-le_self at.number tuning.info.bn) below in
    record {
      offset = starts.offset;
      heard = record {
        later = stay.goes.later;
        made = made;
        steps_are = stay.goes.split;
        same_sink = stay.goes.same_sink;
        tuning = tuning;
        there = stay.is.place_is;
        its_source = stay.is.source_is;
        taken = stay.taken;
        parts = starts.parts;
        heard = starts.heard;
        complete = starts.complete;
        octets = starts.octets;
        is_start = starts.is_start;
        closed = below;
      };
      event = event;
      event_is = ap (λ b. at.number / b) bn_is;
      least = omega (arith, first_event, stay.to.first);
      performed = omega (arith, performed_then, stay.opens);
      stream = starts.stream;
      time_is = starts.time_is ∙ start_time_is (setup_in all s) tuning bis event starts.offset stay.to first_event;
    }

all_behind : (airs : Airs) (all : List Step) (s n bis : ℕ) (made : List Step) (tuning : BigSync) (at : SegmentPlace) (places : List SegmentPlace) (entries : List Handed)
    → IsStay airs all s n bis made tuning → Behind at places (closed_end (stay_on tuning bis) (calls_on airs made n tuning bis))
    → AllZip (AtStart (stay_on tuning bis) (calls_on airs made n tuning bis)) places entries → AllZip (IsOfStart airs all s n bis) places entries
all_behind airs all s n bis made tuning at (next ∷ places) (entry ∷ entries) stay behind each = (
  one_start airs all s n bis made tuning next entry stay
      (behind_below next places (closed_end (stay_on tuning bis) (calls_on airs made n tuning bis)) behind.1) each.0,
  all_behind airs all s n bis made tuning next places entries stay behind.1 each.1,
)
all_behind airs all s n bis made tuning at places entries stay behind each = search (one_start, behind_below, closed_end, stay_on, calls_on)

all_starts : (airs : Airs) (all : List Step) (s n bis : ℕ) (made : List Step) (tuning : BigSync) (low : ℕ) (places : List SegmentPlace) (entries : List Handed)
    → IsStay airs all s n bis made tuning → RiseTo low places (closed_end (stay_on tuning bis) (calls_on airs made n tuning bis))
    → AllZip (AtStart (stay_on tuning bis) (calls_on airs made n tuning bis)) places entries → AllZip (IsOfStart airs all s n bis) places entries
all_starts airs all s n bis made tuning low (at ∷ places) (entry ∷ entries) stay rise each = (
  search (one_start, behind_below, closed_end, stay_on, calls_on),
  all_behind airs all s n bis made tuning at places entries stay rise.1 each.1,
)
all_starts airs all s n bis made tuning low places entries stay rise each =
    search (one_start, behind_below, closed_end, stay_on, calls_on, all_behind)

-- ---- over all stays

record Fine (airs : Airs) (boxes s n : ℕ) (all made : List Step) : Type 0 where
  pub legal_is : Legal airs boxes made
  pub within : Within (setup_in all s) (calls_in all s) (steps_of_source s made)
  pub ungiven : given_since_made n made ≡ false
  pub goes : GoesOn n all made

-- entries of starts in PDUs of events below this one
record Claim (airs : Airs) (all : List Step) (s n bis e : ℕ) (closed : List Closed) (entries : List Handed) : Type 0 where
  pub places : List SegmentPlace
  pub rise : RiseTo 0 places (e * (setup_in all s).info.bn)
  pub each : AllZip (IsOfStart airs all s n bis) places entries

claim_more : (airs : Airs) (all : List Step) (s n bis e later : ℕ) (closed more : List Closed) (entries : List Handed) → e ≤ later → Claim airs all s n bis e closed entries
    → Claim airs all s n bis later more entries
claim_more airs all s n bis e later closed more entries most claim =
    let bn : ℕ = (setup_in all s).info.bn in
    record { places = claim.places; rise = rise_more 0 claim.places (e * bn) (later * bn) (mul-le-mul most (omega arith)) claim.rise; each = claim.each }

over : Below → (airs : Airs) (boxes s n bis : ℕ) (all : List Step) → s ≤ 1 → n ≤ 7 → 1 ≤ bis → bis ≤ 31 → (setup_in all s).info.framing ≡ 1
    → OverStay (Claim airs all s n bis) (Fine airs boxes s n all) airs s n bis
over below airs boxes s n bis all source_within sink_within least greatest is_framed made fine tuning is past entries claim =
    let own : List Step = steps_of_source s made in
    let bn : ℕ = (setup_in all s).info.bn in
    let on : OnSource own tuning = on_source below.announcing airs boxes s n made tuning fine.legal_is is in
    let to : TunedTo (setup_in all s) tuning = stay_on_whole below.announcing airs boxes s n (setup_in all s) (calls_in all s) made tuning fine.legal_is fine.within is in
    let bn_is : tuning.info.bn ≡ bn = ap (λ (i : BigInfo). i.bn) to.info in
    let calls : List StayCall = calls_on airs made n tuning bis in
    let opens : opened (stay_on tuning bis) calls ≤ next_in own = opened_within below airs boxes s n bis made tuning fine.legal_is source_within is in
    let first_opens : tuning.first ≤ opened (stay_on tuning bis) calls = opened_least (stay_on tuning bis) calls in
    let shown : shown_since (is_tuned n) airs s n bis made ≡ of_stream bis (ticked_since (sink_calls airs n made)) =
    ap (of_stream bis) (since airs boxes s n made tuning fine.legal_is source_within sink_within is) in
    let most : next_in own ≤ next_of (setup_in all s) (calls_in all s) = next_of_whole (setup_in all s) (calls_in all s) own fine.within on.started in
    elim (cases_Bool (is_in tuning.which bis)) [
      | inr free ↦
          subst (λ us. Claim airs all s n bis (next_in own) (past ++ closed_from (is_tuned n) airs s n made) us)
          (sym (ap (λ us. entries ++ us) (shown ∙ below.others tuning (sink_calls airs n made) bis is.place_is
          (λ taken. true_not_false (is_in tuning.which bis) (member_is tuning.which bis taken).0 free)) ∙ append-nil entries))
          (claim_more airs all s n bis tuning.first (next_in own) past (past ++ closed_from (is_tuned n) airs s n made) entries (omega (arith, first_opens, opens)) claim)
      | inl taken ↦
          let member : Contains (streams_of tuning.which) bis = is_member tuning.which bis least greatest taken in
          let decided_is : shown_since (is_tuned n) airs s n bis made ≡ decided (stay_on tuning bis) calls =
          shown ∙ below.framed_hands tuning (sink_calls airs n made) bis (ap (λ (i : BigInfo). i.framing) to.info ∙ is_framed) is.place_is member in
          let told = decided_told (stay_on tuning bis) calls in
          let stay : IsStay airs all s n bis made tuning = record { goes = fine.goes; is = is; taken = member; to = to; opens = omega (arith, opens, most) } in
          let end : opened (stay_on tuning bis) calls * tuning.info.bn ≤ next_in own * bn =
          subst (λ (b : ℕ). opened (stay_on tuning bis) calls * tuning.info.bn ≤ next_in own * b) bn_is (mul-le-mul opens (omega arith)) in
          let rises : RiseTo (tuning.first * bn) told.places (next_in own * bn) = grind (arith, rise_more (tuning.first * tuning.info.bn) told.places (closed_end (stay_on tuning bis) calls) (next_in own * bn) end told.rise) in
          subst (λ us. Claim airs all s n bis (next_in own) (past ++ closed_from (is_tuned n) airs s n made) (entries ++ us)) (sym decided_is)
          (record {
            places = claim.places ++ told.places;
            rise = rise_on 0 claim.places (tuning.first * bn) told.places (next_in own * bn) claim.rise rises;
            each = search (all_zip_append, decided, stay_on, all_starts);
          })
    ]

pub starts_in_order : Below → (airs : Airs) (boxes s n bis : ℕ) (made : List Step) → Legal airs boxes made → (setup_of (steps_of_source s made)).info.framing ≡ 1 → s ≤ 1 → n ≤ 7 → 1 ≤ bis → bis ≤ 31
    → given_since_made n made ≡ false → InStartOrder airs made s n bis (shown_since (is_made n) airs s n bis made)
starts_in_order below airs boxes s n bis made legal is_framed source_within sink_within least greatest ungiven =
    let turns : Turns (Claim airs made s n bis) (Fine airs boxes s n made) airs boxes s n bis = record {
      laws = below.announcing;
      none = λ e. record { places = []; rise = omega arith; each = tt };
      rises = λ e later closed entries more claim. claim_more airs made s n bis e later closed closed entries more claim;
      over = over below airs boxes s n bis made source_within sink_within least greatest is_framed;
      legal = λ part fine. fine.legal_is;
      ungiven = λ part fine. fine.ungiven;
      before = λ step earlier still fine. (search (within_before, rest_not, is_made, is_given, given_since_made, went_on));
      source_within = source_within;
      sink_within = sink_within;
    } in
    let all = over_stays (Claim airs made s n bis) (Fine airs boxes s n made) airs boxes s n bis turns made
    (record { legal_is = legal; within = within_itself (steps_of_source s made); ungiven = ungiven; goes = record { later = []; split = refl; same_sink = refl } }) in
    record { places = all.places; order = grind (arith, behind_order); each = all.each }

-- ---- the order law, of both framings

pub stays_in_order : Below → StepsInOrder
stays_in_order below airs meets boxes made lawful_steps s n source_below ungiven =
    search (closes_rise, slots_are_shown, starts_in_order, units_in_order, entries_in_order)

pub order_law_holds : Below → (starts : List Account) → OrderLaw starts
order_law_holds below starts airs meets lines accepted s n source_below ungiven =
    stays_in_order below airs meets (length starts) (steps_of airs lines) (legal below.in_range airs starts lines accepted) s n source_below
    ungiven

-- The units that a framed air sends, by payload numbers: the PDU of each number is theirs.
use Rattle.scenario_laws.proofs.Known.{ℕ, zero, suc, ◌≡◌, ◌<◌, ◌≤◌, ◌+◌, ◌-◌, ◌*◌, ◌/◌, List, [], ◌∷◌, ◌++◌, length, map, Some, refl, sym, ◌∙◌, ap, subst, arith, slice_get, unwrap_or, AllZip, range_with_len, option_and_then, add-mul, BigInfo, Group, Bounds, horizon_of, Content, framed, pdu, Air, pdu_at, Fit, InOrder, Sent, parts_at, ahead_of, payload_number, AreAirs, IsAir, pdu_of, Airs, Setup, events, next_of, ahead_within, event_of_number, BigSync, setup_of, source_calls, MeetAirs, AreSent, by_payload, ◌==◌, cond, ltb, Bool, true, false, Option, is_some, slice_index_or, Contains, list_any, div-mul-le_self, mul-le-mul, eqb-true, false≢true, ltb-false, or_parts, Stay, opened, decided, heard_in, is_heard, struck, segmented, opened_least, framed_calls, laid_before, of_stream, member_is, stay_on, streams_of, Step, steps_of_source, is_started, sink_calls, IsFramedStruck, air_in, calls_on, handed_since, injected_since, is_tuned, of_sink, SourceCall, Below, Settled, group_in, settled, Lawful, are_accepted, bounds_in, lawful, events_more, Within, next_in, within_itself, WholeSends, its_airs, all_own, events_in, laid_some, unit_short, read_as, heard_first, ticked_since, has_beyond, Announcing, Legal, IsOn, OnSource, TunedTo, on_source, stay_within, StayCall, ◌%◌, ◌&&◌, eqb, None, inl, inr, cases_eq, eq-eqb, ne_eqb, div-add-mod', mod_below, Laid, event_at, EventsAre, get-range, carried, is_last, part_with, behind}
use Rattle.scenario_laws.proofs.FromSources.{framed_from_source}

-- ---- the PDU of a number

pub each_sent : (info : BigInfo) (air : Air) (units : List Sent) (number : ℕ) → 1 ≤ info.bn → EventsAre info air units → number / info.bn < length air
    → pdu_at info.bn air number ≡ Some (pdu (framed (parts_at units number)))
each_sent info [] units number some are below = absurd (omega (arith, below))
each_sent info (entry ∷ earlier) units number some are below = elim (cases_eq (length earlier) (number / info.bn)) [
  | inl here ↦ grind (
    arith,
    option_and_then,
    slice_get,
    cond,
    event_at,
    eq-eqb,
    length,
    div-add-mod',
    get-range,
    pdu,
    framed,
    parts_at,
    mod_below,
  )
  | inr apart ↦
      ap (λ b. option_and_then (λ (event : Laid). slice_get event.pdus (number % info.bn)) (cond b (Some entry.event) (event_at earlier (number / info.bn)))) (ne_eqb (length earlier)
      (number / info.bn) apart) ∙ each_sent info earlier units number some are.0 (omega (arith, below, apart))
]

-- ---- numbers that begin further on

abbrev pub moved_on : ℕ → Sent → Sent
moved_on base unit = record { first = base + unit.first; offset = unit.offset; segments = unit.segments; whole = unit.whole }

same_test : (base a b : ℕ) → eqb (base + a) (base + b) ≡ eqb a b
same_test base a b = grind (arith, cases_eq, eq-eqb, ne_eqb)

carried_on : (base from : ℕ) (offset : Option ℕ) (segments : List (List ℕ)) (whole : Bool) (number : ℕ)
    → carried (base + from) offset segments whole (base + number) ≡ carried from offset segments whole number
carried_on base from offset [] whole number = refl
carried_on base from offset (octets ∷ segments) whole number =
    let next : base + from + 1 ≡ base + (from + 1) = omega arith in
    rw (same_test base from number) (ap (λ rest. cond (eqb from number) (part_with offset (whole && is_last segments) octets ∷ []) rest)
    (ap (λ f. carried f None segments whole (base + number)) next ∙ carried_on base (from + 1) None segments whole number))

pub parts_on : (base : ℕ) (units : List Sent) (number : ℕ) → parts_at (map (moved_on base) units) (base + number) ≡ parts_at units number
parts_on base [] number = refl
parts_on base (unit ∷ units) number =
    cc (carried_on base unit.first (Some unit.offset) unit.segments unit.whole number, parts_on base units number)

no_more : (base : ℕ) (units : List Sent) → units ≡ [] → map (moved_on base) units ≡ []
no_more base units none = ap (map (moved_on base)) none

pub order_on : (base from laid : ℕ) (units : List Sent) → InOrder from laid units → InOrder (base + from) (base + laid) (map (moved_on base) units)
order_on base from laid [] order = tt
order_on base from laid (unit ∷ units) order =
    let next : base + (behind unit - 1) ≡ behind (moved_on base unit) - 1 = omega (arith, order.1) in (
      omega (arith, order.0),
      order.1,
      (λ partly. (no_more base units (order.2 partly).0, omega (arith, (order.2 partly).1))),
      subst (λ f. InOrder f (base + laid) (map (moved_on base) units)) next (order_on base (behind unit - 1) laid units order.3),
    )

pub order_from : (from low laid : ℕ) (units : List Sent) → low ≤ from → InOrder from laid units → InOrder low laid units
order_from from low laid [] more order = tt
order_from from low laid (unit ∷ units) more order = (omega (arith, more, order.0), order.1, order.2, order.3)

pub fit_on : (base most : ℕ) (units : List Sent) → Fit most units → Fit most (map (moved_on base) units)
fit_on base most [] fit = tt
fit_on base most (unit ∷ units) fit = (fit.0, fit_on base most units fit.1)

-- ---- what a source of a framed group sends is its own: the PDUs of the units that its air sends, by payload numbers

-- ---- the air of a stream

zip_at : {B : Type 0} (R : ℕ → B → Type 0) (start count : ℕ) (ys : List B) (i : ℕ) → AllZip R (range_with_len start count) ys → i < count → (y : B) × (slice_get ys i ≡ Some y) × R (start + i) y
zip_at R start zero ys i all below = absurd (omega (arith, below))
zip_at R start (suc count) [] i all below = absurd all
zip_at R start (suc count) (y ∷ ys) zero all below = (y, refl, subst (λ n. R n y) (omega arith) all.0)
zip_at R start (suc count) (y ∷ ys) (suc i) all below =
    let more = zip_at R (start + 1) count ys i all.1 (omega (arith, below)) in
    (more.0, more.1, subst (λ n. R n more.0) (omega arith) more.2)

-- a stream of the group has an air
pub record HasAir (setup : Setup) (calls : List SourceCall) (bis : ℕ) (airs : List Air) : Type 0 where
  pub air : Air
  pub there : slice_get airs (bis - 1) ≡ Some air
  pub is : IsAir setup calls bis air

pub has_air : (setup : Setup) (calls : List SourceCall) (bis : ℕ) (airs : List Air) → AreAirs setup calls airs → 1 ≤ bis → bis ≤ setup.info.num_bis → HasAir setup calls bis airs
has_air setup calls bis airs are least within =
    let one = zip_at (IsAir setup calls) 1 setup.info.num_bis airs (bis - 1) are (omega (arith, least, within)) in
    record { air = one.0; there = one.1; is = subst (λ b. IsAir setup calls b one.0) (omega (arith, least)) one.2 }

-- what is laid at a number, of the units that the air sends
abbrev pub laid_of : List Sent → ℕ → Content
laid_of units number = framed (parts_at units number)

-- ---- a number of the group and the one of the air

number_on : (info : BigInfo) (first event subevent : ℕ) → first ≤ event → first * info.bn + payload_number info (event - first) subevent ≡ payload_number info event subevent
number_on info first event subevent least = grind (arith, ahead_of, add-mul)

-- the PDU of a subevent, of the air after all calls
whole_pdu : (setup : Setup) (whole : List SourceCall) (airs : List Air) (bis event subevent : ℕ) (units : List Sent) → Bounds setup.info → setup.info.framing ≡ 1
    → (has : HasAir setup whole bis airs) → AreSent setup whole bis has.air units → setup.first ≤ event → event < next_of setup whole → subevent < setup.info.nse
    → pdu_of setup airs event bis subevent ≡ Some (pdu (laid_of units (payload_number setup.info event subevent)))
whole_pdu setup whole airs bis event subevent units bounds is_framed has sent least past within =
    let info = setup.info in
    let number : ℕ = payload_number info (event - setup.first) subevent in
    let long : length has.air ≡ events whole + horizon_of info =
    events_in setup bis whole has.air (has.is.framed is_framed) ∙ laid_some (events whole) (horizon_of info) (omega (arith, past, least)) in
    let near : ahead_of info (subevent / info.bn) ≤ horizon_of info = ahead_within info subevent bounds.bn bounds.whole_groups within in
    let at : number / info.bn ≡ event - setup.first + ahead_of info (subevent / info.bn) = event_of_number info (event - setup.first) subevent bounds.bn in
    let below : number / info.bn < length has.air = omega (arith, at, near, long, past, least) in
    let same : parts_at sent.in_air number ≡ parts_at units (payload_number info event subevent) = grind (arith, parts_on (setup.first * info.bn) sent.in_air number, number_on info setup.first event subevent least, sent.numbered) in
    ap (option_and_then (λ air. pdu_at info.bn air number)) has.there
    ∙ each_sent info has.air sent.in_air number bounds.bn sent.sends.pdus below ∙ ap (λ parts. Some (pdu (framed parts))) same

-- ---- what is known of the whole source

pub record FramedWhole (airs : Airs) (setup : Setup) (whole : List SourceCall) (bis : ℕ) (units : List Sent) : Type 0 where
  pub bounds : Bounds setup.info
  pub is_framed : setup.info.framing ≡ 1
  pub least : 1 ≤ bis
  pub within : bis ≤ setup.info.num_bis
  pub are : AreAirs setup whole (airs setup whole)
  pub has : HasAir setup whole bis (airs setup whole)
  pub sent : AreSent setup whole bis has.air units

pub framed_sends : Below → (airs : Airs) → MeetAirs airs → (setup : Setup) (whole : List SourceCall) (tuning : BigSync) (bis : ℕ) (units : List Sent) → FramedWhole airs setup whole bis units
    → tuning.info ≡ setup.info → WholeSends airs setup whole (laid_of units) tuning bis
framed_sends below airs meets setup whole tuning bis units all same own legal started within event subevent least past bis_least bis_within inside =
    let is : Settled own = settled airs own legal in
    let setup_is : setup_of own ≡ setup = within.setup_is started in
    let first_is : (setup_of own).first ≡ setup.first = ap (λ (s : Setup). s.first) setup_is in
    let info_is : (setup_of own).info ≡ setup.info = ap (λ (s : Setup). s.info) setup_is in
    let group : Group = group_in own is started in
    let here : AreAirs setup (source_calls own) (airs setup (source_calls own)) =
    subst (λ (s : Setup). AreAirs s (source_calls own) (airs s (source_calls own))) setup_is (its_airs airs meets own legal started) in
    let all_are : AreAirs setup (within.calls.0 ++ source_calls own) (airs setup whole) = subst (λ calls. AreAirs setup calls (airs setup whole)) within.calls.1 all.are in
    let more : events (source_calls own) ≤ events whole = subst (λ calls. events (source_calls own) ≤ events calls) (sym within.calls.1) (events_more within.calls.0 (source_calls own)) in
    let past_here : event < next_of setup (source_calls own) = omega (arith, past, first_is) in
    let inside_here : subevent < setup.info.nse = subst (λ (i : BigInfo). subevent < i.nse) info_is inside in
    let stays = below.sent_stays group setup within.calls.0 (source_calls own) (airs setup (source_calls own)) (airs setup whole) event bis subevent (sym info_is) here all_are
    (omega (arith, least, first_is)) past_here bis_least bis_within inside in
    ap (λ (s : Setup). unwrap_or (pdu_of s (airs s (source_calls own)) event bis subevent) []) setup_is
    ∙ ap (λ o. unwrap_or o []) (sym stays ∙ whole_pdu setup whole (airs setup whole) bis event subevent units all.bounds all.is_framed all.has all.sent
    (omega (arith, least, first_is)) (omega (arith, past_here, more)) inside_here)
    ∙ ap (λ (i : BigInfo). pdu (laid_of units (payload_number i event subevent))) (sym same)

-- how many numbers are laid, counted as payload numbers
abbrev pub laid_end : Setup → Air → ℕ
laid_end setup air = setup.first * setup.info.bn + length air * setup.info.bn

pub sent_in_order : (setup : Setup) (whole : List SourceCall) (bis : ℕ) (air : Air) (units : List Sent) → AreSent setup whole bis air units → InOrder 0 (laid_end setup air) units
sent_in_order setup whole bis air units sent =
    subst (InOrder 0 (laid_end setup air)) (sym sent.numbered)
    (order_from (setup.first * setup.info.bn + 0) 0 (laid_end setup air) (map (by_payload setup) sent.in_air) (omega arith)
    (order_on (setup.first * setup.info.bn) 0 (length air * setup.info.bn) sent.in_air sent.sends.order))

pub sent_fit : (setup : Setup) (whole : List SourceCall) (bis : ℕ) (air : Air) (units : List Sent) → AreSent setup whole bis air units → Fit setup.info.max_sdu units
sent_fit setup whole bis air units sent =
    subst (Fit setup.info.max_sdu) (sym sent.numbered) (fit_on (setup.first * setup.info.bn) setup.info.max_sdu sent.in_air sent.sends.fit)

-- ---- one stay on a framed stream: what its closed events decide is struck over the units that the source sends

-- ---- the streams that a sink takes are those of the group

none_beyond : (num_bis d : ℕ) (xs : List ℕ) (k : ℕ) → k < length xs → list_any (λ bis. ltb num_bis bis) xs ≡ false → slice_index_or xs k d ≤ num_bis
none_beyond num_bis d [] k below none = absurd (omega (arith, below))
none_beyond num_bis d (x ∷ xs) zero below none = ltb-false num_bis x (or_parts (ltb num_bis x) (list_any (λ bis. ltb num_bis bis) xs) none).0
none_beyond num_bis d (x ∷ xs) (suc k) below none =
    none_beyond num_bis d xs k (omega (arith, below)) (or_parts (ltb num_bis x) (list_any (λ bis. ltb num_bis bis) xs) none).1

pub taken_within : (num_bis which bis : ℕ) → has_beyond num_bis which ≡ false → Contains (streams_of which) bis → bis ≤ num_bis
unfolding has_beyond
taken_within num_bis which bis none taken = subst (λ b. b ≤ num_bis) taken.2 (none_beyond num_bis bis (streams_of which) taken.0 taken.1 none)

-- ---- a number that is heard belongs to an event of the stay

heard_some : {A : Type 0} (o : Option A) → is_some o ≡ true → (x : A) × (o ≡ Some x)
heard_some o is = grind (arith, false≢true)

pub heard_least : (stay : Stay) (calls : List StayCall) (number : ℕ) → is_heard stay calls number ≡ true → stay.first ≤ number / stay.info.bn
heard_least stay calls number is =
    let some = heard_some (heard_in stay calls number) is in
    let first = heard_first (read_as segmented stay.info.max_pdu) stay number some.0 calls some.1 in
    omega (arith, first.enters.window.0, opened_least stay first.earlier)

pub mul_least : (a b n : ℕ) → a ≤ b / n → a * n ≤ b
mul_least a b n least = let times : a * n ≤ b / n * n = mul-le-mul least (omega arith) in omega (arith, times, div-mul-le_self b n)

-- ---- the open event of a stay is at most the source's next one

pub opened_within : Below → (airs : Airs) (boxes s n bis : ℕ) (made : List Step) (tuning : BigSync) → Legal airs boxes made → s ≤ 1 → IsOn airs s n made tuning
    → opened (stay_on tuning bis) (calls_on airs made n tuning bis) ≤ next_in (steps_of_source s made)
opened_within below airs boxes s n bis made tuning legal within is =
    omega (arith, below.one_open tuning (sink_calls airs n made) bis, stay_within below.announcing airs boxes s n made tuning legal within is)

-- ---- the units of a whole source

pub whole_units : Below → (airs : Airs) → MeetAirs airs → (own : List Step) (bis : ℕ) → Lawful airs own → is_started own ≡ true → (setup_of own).info.framing ≡ 1 → 1 ≤ bis
    → bis ≤ (setup_of own).info.num_bis → (units : List Sent) × FramedWhole airs (setup_of own) (source_calls own) bis units
whole_units below airs meets own bis legal started is_framed least within =
    let is : Settled own = settled airs own legal in
    let group : Group = group_in own is started in
    let are : AreAirs (setup_of own) (source_calls own) (airs (setup_of own) (source_calls own)) = its_airs airs meets own legal started in
    let has : HasAir (setup_of own) (source_calls own) bis (airs (setup_of own) (source_calls own)) =
    has_air (setup_of own) (source_calls own) bis (airs (setup_of own) (source_calls own)) are least within in
    let sends = below.sends_units group (framed_calls (setup_of own) bis (source_calls own)) has.air is_framed
    (unit_short airs (setup_of own) bis (source_calls own) (are_accepted airs own legal)) (has.is.framed is_framed) in (
      map (by_payload (setup_of own)) sends.0,
      record {
        bounds = bounds_in own is started;
        is_framed = is_framed;
        least = least;
        within = within;
        are = are;
        has = has;
        sent = record { in_air = sends.0; sends = sends.1; numbered = refl };
      },
    )

-- ---- what is decided in the stay is struck

pub stay_on_whole : Announcing → (airs : Airs) (boxes s n : ℕ) (setup : Setup) (whole : List SourceCall) (made : List Step) (tuning : BigSync) → Legal airs boxes made
    → Within setup whole (steps_of_source s made) → IsOn airs s n made tuning → TunedTo setup tuning
stay_on_whole laws airs boxes s n setup whole made tuning legal within is =
    let on : OnSource (steps_of_source s made) tuning = on_source laws airs boxes s n made tuning legal is in
    subst (λ (setup' : Setup). TunedTo setup' tuning) (within.setup_is on.started) on.tuned

pub next_of_whole : (setup : Setup) (whole : List SourceCall) (own : List Step) → Within setup whole own → is_started own ≡ true → next_in own ≤ next_of setup whole
next_of_whole setup whole own within started = grind (arith, events, source_calls, events_more, setup_of)

pub laid_least : (none : Bool) (count h : ℕ) → (none ≡ true → count ≡ 0) → count ≤ cond none 0 (count + h)
laid_least none count h is = grind arith

pub closed_within : (bn first count laid opens : ℕ) → opens ≤ first + count → count ≤ laid → opens * bn ≤ first * bn + laid * bn
closed_within bn first count laid opens past more =
    let product : (first + laid) * bn ≡ first * bn + laid * bn = add-mul first laid bn in
    let times : opens * bn ≤ (first + laid) * bn = mul-le-mul (omega (arith, past, more)) (omega arith) in
    omega (arith, product, times)

pub stay_decided : Below → (airs : Airs) → MeetAirs airs → (boxes s n bis : ℕ) (setup : Setup) (whole : List SourceCall) (units : List Sent) → FramedWhole airs setup whole bis units
    → (made : List Step) (tuning : BigSync) → Legal airs boxes made → Within setup whole (steps_of_source s made) → s ≤ 1 → IsOn airs s n made tuning → injected_since (is_tuned n) n made ≡ false
    → decided (stay_on tuning bis) (calls_on airs made n tuning bis) ≡ struck (stay_on tuning bis) units (calls_on airs made n tuning bis)
stay_decided below airs meets boxes s n bis setup whole units all made tuning legal within source_within is clean =
    let on : OnSource (steps_of_source s made) tuning = on_source below.announcing airs boxes s n made tuning legal is in
    let to : TunedTo setup tuning = stay_on_whole below.announcing airs boxes s n setup whole made tuning legal within is in
    let bn_is : tuning.info.bn ≡ setup.info.bn = ap (λ (i : BigInfo). i.bn) to.info in
    let long : length all.has.air ≡ laid_before setup.info whole = events_in setup bis whole all.has.air (all.has.is.framed all.is_framed) in
    let opens : opened (stay_on tuning bis) (calls_on airs made n tuning bis) ≤ next_of setup whole =
    omega (arith, opened_within below airs boxes s n bis made tuning legal source_within is, next_of_whole setup whole (steps_of_source s made) within on.started) in
    let closes_within : opened (stay_on tuning bis) (calls_on airs made n tuning bis) * setup.info.bn ≤ laid_end setup all.has.air =
    closed_within setup.info.bn setup.first (events whole) (length all.has.air) (opened (stay_on tuning bis) (calls_on airs made n tuning bis)) opens
    (omega (arith, long, laid_least (events whole == 0) (events whole) (horizon_of setup.info) (eqb-true (events whole) 0))) in
    below.framed_struck (stay_on tuning bis) units (laid_end setup all.has.air) (calls_on airs made n tuning bis)
    (omega (arith, bn_is, all.bounds.bn)) (sent_in_order setup whole bis all.has.air units all.sent)
    (subst (λ (b : ℕ). opened (stay_on tuning bis) (calls_on airs made n tuning bis) * b ≤ laid_end setup all.has.air) (sym bn_is) closes_within)
    (subst (λ (i : BigInfo). Fit i.max_sdu units) (sym to.info) (sent_fit setup whole bis all.has.air units all.sent))
    (search (framed_from_source, stay_on, calls_on, all_own, laid_of, framed_sends))

-- ---- the framed units law of a stay

pub same_air : (airs : Airs) (own : List Step) (bis : ℕ) (has : HasAir (setup_of own) (source_calls own) bis (airs (setup_of own) (source_calls own))) → air_in airs own bis ≡ has.air
same_air airs own bis has = ap (λ o. unwrap_or o []) has.there

pub framed_law : Below → (airs : Airs) → MeetAirs airs → (boxes s n bis : ℕ) (made : List Step) (tuning : BigSync) → Legal airs boxes made → s ≤ 1 → IsOn airs s n made tuning
    → (setup_of (steps_of_source s made)).info.framing ≡ 1 → Contains (streams_of tuning.which) bis → injected_since (is_tuned n) n made ≡ false
    → of_stream bis (of_sink s n (handed_since (is_tuned n) airs made)) ≡ of_stream bis (ticked_since (sink_calls airs n made)) → IsFramedStruck airs made s n tuning bis
framed_law below airs meets boxes s n bis made tuning legal within is is_framed taken clean ticks =
    let own : List Step = steps_of_source s made in
    let own_legal : Lawful airs own = lawful airs boxes s made legal in
    let on : OnSource own tuning = on_source below.announcing airs boxes s n made tuning legal is in
    let num_bis : tuning.info.num_bis ≡ (setup_of own).info.num_bis = ap (λ (i : BigInfo). i.num_bis) on.tuned.info in
    let of_group : bis ≤ (setup_of own).info.num_bis = taken_within (setup_of own).info.num_bis tuning.which bis on.streams taken in
    let whole = whole_units below airs meets own bis own_legal on.started is_framed (member_is tuning.which bis taken).1 of_group in
    let same : air_in airs own bis ≡ whole.1.has.air = same_air airs own bis whole.1.has in
    record {
      some = (whole.0, subst (λ air. AreSent (setup_of own) (source_calls own) bis air whole.0) (sym same) whole.1.sent);
      each = λ units sent. ticks
          ∙ below.framed_hands tuning (sink_calls airs n made) bis (ap (λ (i : BigInfo). i.framing) on.tuned.info ∙ is_framed) is.place_is taken
          ∙ stay_decided below airs meets boxes s n bis (setup_of own) (source_calls own) units (record {
            bounds = whole.1.bounds;
            is_framed = is_framed;
            least = whole.1.least;
            within = of_group;
            are = whole.1.are;
            has = whole.1.has;
            sent = subst (λ air. AreSent (setup_of own) (source_calls own) bis air units) same sent;
          }) made tuning legal (within_itself own) within is clean;
    }

-- The entries of a framed stream over all stays of a sink with a source: each is of a unit that the source accepted, in order.
use Rattle.scenario_laws.proofs.Known.{ℕ, suc, ◌≡◌, ◌<◌, ◌≤◌, ◌+◌, ◌-◌, ◌*◌, ◌/◌, true, false, List, [], ◌∷◌, ◌++◌, map, Some, refl, sym, ◌∙◌, ap, subst, arith, inl, inr, slice_get, Contains, add-mul, mul-le-mul, cases_Bool, append-nil, div-mul-add, BigInfo, iso_us_of, Handed, Air, opened, Timed, accepted, layings_of, IsOf, Sent, closed_end, entry_of, is_heard, struck, time_of, cases_low, opened_least, framed_reference_of, Setup, framed_calls, next_of, BigSync, bis_of, of_stream, is_in, stay_on, streams_of, is_member, member_is, Step, steps_of_source, is_started, setup_of, source_calls, Airs, MeetAirs, sink_calls, AreSent, InUnitOrder, IsOfUnit, IsSentAs, by_payload, time_in, whole_stay, Closed, air_in, calls_on, given_since_made, injected_since, is_given, is_injected, is_made, is_tuned, shown_since, SourceCall, ticked_since, anchor_in, Below, Legal, Lawful, lawful, true_not_false, Within, goes, next_in, within_before, within_itself, OnSource, TunedTo, on_source, rest_not, climbs, laid_by, StayCall, render_same}
use Rattle.scenario_laws.proofs.UnitsLaw.{since}
use Rattle.scenario_laws.proofs.InOrder.{clean_stay}
use Rattle.scenario_laws.proofs.FramedStays.{FramedWhole, laid_end, sent_in_order, heard_least, mul_least, next_of_whole, opened_within, same_air, stay_decided, stay_on_whole, taken_within, whole_units}
use Rattle.scenario_laws.proofs.Gains.{Gives, IsEntry, IsNumbered, Numbered, Ordered, are_numbered, has_entry, ordered_later, ordered_none, ordered_on}
use Rattle.scenario_laws.proofs.StaysInTurn.{OverStay, Turns, over_stays}

-- ---- units by payload numbers

-- the unit is of the one of this number among those accepted, of which the air sends one that has this place
abbrev pub IsSent : Setup → List SourceCall → ℕ → ℕ → Sent → Type 0
IsSent setup whole bis n unit =
    (one : Sent) × (unit ≡ by_payload setup one) × IsNumbered setup.info.bn (layings_of (framed_calls setup bis whole)) (accepted (framed_calls setup bis whole)) n one

pub numbered_on : (setup : Setup) (whole : List SourceCall) (bis low : ℕ) (ns : List ℕ) (units : List Sent)
    → Numbered (IsNumbered setup.info.bn (layings_of (framed_calls setup bis whole)) (accepted (framed_calls setup bis whole))) low ns units
    → Numbered (IsSent setup whole bis) low ns (map (by_payload setup) units)
numbered_on setup whole bis low [] [] all = tt
numbered_on setup whole bis low (n ∷ ns) (unit ∷ units) all = (all.0, (unit, refl, all.1), numbered_on setup whole bis (n + 1) ns units all.2)
numbered_on setup whole bis low ns units all = search

-- the air sends the unit, which is of the one of this number among those accepted
abbrev pub IsInAir : Setup → List SourceCall → ℕ → Air → ℕ → Sent → Type 0
IsInAir setup whole bis air n unit =
    (given : Timed) × (slice_get (accepted (framed_calls setup bis whole)) n ≡ Some given) × IsSentAs setup whole bis air n given unit

pub in_air : (setup : Setup) (whole : List SourceCall) (bis : ℕ) (air : Air) (units : List Sent) → AreSent setup whole bis air units
    → (place n : ℕ) (unit : Sent) → slice_get units place ≡ Some unit → IsSent setup whole bis n unit → IsInAir setup whole bis air n unit
in_air setup whole bis air units are place n unit at sent = (
  sent.2.0,
  sent.2.1,
  record { units = units; are_sent = are; place = place; is_sent = at; in_air = sent.0; numbered = sent.1; is_of = sent.2.2 },
)

numbered_each : (R Q : ℕ → Sent → Type 0) (low : ℕ) (ns : List ℕ) (units : List Sent)
    → ((place : ℕ) → (n : ℕ) → (unit : Sent) → slice_get units place ≡ Some unit → R n unit → Q n unit)
    → Numbered R low ns units → Numbered Q low ns units
numbered_each R Q low (n ∷ ns) (unit ∷ units) each all =
    (all.0, each 0 n unit refl all.1, numbered_each R Q (n + 1) ns units (λ place. each (suc place)) all.2)
numbered_each x1 x2 low ns units each all = search

-- ---- an entry is of its unit

-- the time of a start by the stay's anchor is that by the source's
pub start_time_is : (setup : Setup) (tuning : BigSync) (bis event offset : ℕ) → TunedTo setup tuning → tuning.first ≤ event
    → time_of (stay_on tuning bis) event offset ≡ time_of (whole_stay setup bis) event offset
start_time_is setup tuning bis event offset on least = render_same (λ info anchor. framed_reference_of info anchor offset) setup tuning event on least

event_is : (first bn event number : ℕ) → event * bn ≤ number → number < event * bn + bn → (first * bn + number) / bn ≡ first + event
event_is first bn event number least below =
    let product : (first + event) * bn ≡ first * bn + event * bn = add-mul first event bn in
    let split : first * bn + number ≡ (first + event) * bn + (number - event * bn) = omega (arith, product, least) in
    ap (λ n. n / bn) split ∙ div-mul-add (first + event) bn (number - event * bn) (omega (arith, least, below))

pub event_below : (event number opens bn : ℕ) → event * bn ≤ number → number < opens * bn → event < opens
event_below event number opens bn least below = grind (arith, cases_low, mul-le-mul)

pub one_entry : (setup : Setup) (whole : List SourceCall) (tuning : BigSync) (bis : ℕ) (air : Air) (n : ℕ) (sent : Sent) (entry : Handed) (calls : List StayCall) → 1 ≤ setup.info.bn
    → TunedTo setup tuning → opened (stay_on tuning bis) calls ≤ next_of setup whole → IsInAir setup whole bis air n sent
    → IsEntry (stay_on tuning bis) (is_heard (stay_on tuning bis) calls) (closed_end (stay_on tuning bis) calls) sent entry
    → IsOfUnit setup whole bis air n entry
one_entry setup whole tuning bis air n sent entry calls some on opens numbered is_entry =
    let unit : Timed = numbered.0 in
    let sends : IsSentAs setup whole bis air n unit sent = numbered.2 in
    let one : Sent = sends.in_air in
    let is_of : IsOf setup.info.bn (layings_of (framed_calls setup bis whole)) n unit one = sends.is_of in
    let is : IsEntry (stay_on tuning bis) (is_heard (stay_on tuning bis) calls) (closed_end (stay_on tuning bis) calls) (by_payload setup one) entry =
    subst (λ u. IsEntry (stay_on tuning bis) (is_heard (stay_on tuning bis) calls) (closed_end (stay_on tuning bis) calls) u entry) sends.numbered is_entry in
    let bn_is : tuning.info.bn ≡ setup.info.bn = ap (λ (i : BigInfo). i.bn) on.info in
    let begins : (setup.first * setup.info.bn + one.first) / setup.info.bn ≡ setup.first + is_of.timed.event =
    event_is setup.first setup.info.bn is_of.timed.event one.first is_of.timed.least is_of.timed.below in
    let at : (setup.first * setup.info.bn + one.first) / tuning.info.bn ≡ setup.first + is_of.timed.event =
    ap (λ b. (setup.first * setup.info.bn + one.first) / b) bn_is ∙ begins in
    let event : ℕ = setup.first + is_of.timed.event in
    let anchor : is_of.timed.laying.anchor ≡ setup.origin + is_of.timed.event * iso_us_of setup.info =
    (laid_by setup bis whole).each is_of.timed.event is_of.timed.laying is_of.timed.laying_is in
    let behind : event - setup.first ≡ is_of.timed.event = omega arith in
    let anchor_is : is_of.timed.laying.anchor ≡ anchor_in setup event = anchor ∙ ap (λ d. setup.origin + d * iso_us_of setup.info) (sym behind) in
    let first_event : tuning.first ≤ event = omega (arith, heard_least (stay_on tuning bis) calls (setup.first * setup.info.bn + one.first) is.start_heard, at) in
    let product : event * setup.info.bn ≡ setup.first * setup.info.bn + is_of.timed.event * setup.info.bn = add-mul setup.first is_of.timed.event setup.info.bn in
    let closed : setup.first * setup.info.bn + one.first < opened (stay_on tuning bis) calls * setup.info.bn =
    subst (λ (b : ℕ). setup.first * setup.info.bn + one.first < opened (stay_on tuning bis) calls * b) bn_is is.start_closed in
    let below : event < opened (stay_on tuning bis) calls =
    event_below event (setup.first * setup.info.bn + one.first) (opened (stay_on tuning bis) calls) setup.info.bn (omega (arith, product, is_of.timed.least)) closed in
    let parts : (bis_of entry ≡ bis) × (time_in entry ≡ (time_of (stay_on tuning bis)
    ((setup.first * setup.info.bn + one.first) / tuning.info.bn) one.offset)) = grind (arith, bis_of, time_in) in
    record {
      unit = unit;
      sent = sent;
      is_sent = sends;
      event = event;
      event_is = sym (ap (λ (u : Sent). u.first / setup.info.bn) sends.numbered ∙ begins);
      least = omega arith;
      performed = omega (arith, below, opens);
      accepted = numbered.1;
      laying = is_of.timed.laying;
      laid = ap (slice_get (layings_of (framed_calls setup bis whole))) behind ∙ is_of.timed.laying_is;
      before = is_of.timed.before;
      ready = omega (arith, is_of.timed.ready, anchor_is);
      stream = parts.0;
      time_is = grind (arith, parts.1, start_time_is setup tuning bis event one.offset on first_event, is_of.timed.offset);
      valid_is = grind (arith, time_of, stay_on);
    }

stay_gives : (setup : Setup) (whole : List SourceCall) (tuning : BigSync) (bis : ℕ) (air : Air) (calls : List StayCall) → 1 ≤ setup.info.bn → TunedTo setup tuning
    → opened (stay_on tuning bis) calls ≤ next_of setup whole
    → Gives (IsInAir setup whole bis air) (IsOfUnit setup whole bis air) (tuning.first * tuning.info.bn) (closed_end (stay_on tuning bis) calls)
    (entry_of (stay_on tuning bis) (is_heard (stay_on tuning bis) calls) (closed_end (stay_on tuning bis) calls))
stay_gives setup whole tuning bis air calls some on opens n unit sent long =
    elim (has_entry (stay_on tuning bis) (is_heard (stay_on tuning bis) calls) (closed_end (stay_on tuning bis) calls) unit long) [
      | inl none ↦ inl none
      | inr one ↦
          inr (
            one.0,
            one.1,
            mul_least tuning.first unit.first tuning.info.bn (heard_least (stay_on tuning bis) calls unit.first one.2.start_heard),
            one.2.start_closed,
            one_entry setup whole tuning bis air n unit one.0 calls some on opens sent one.2,
          )
    ]

-- ---- over all stays

record Fine (airs : Airs) (boxes s n : ℕ) (setup : Setup) (whole : List SourceCall) (all_started : Type 0) (made : List Step) : Type 0 where
  pub legal_is : Legal airs boxes made
  pub within : Within setup whole (steps_of_source s made)
  pub ungiven : given_since_made n made ≡ false
  pub clean : injected_since (is_made n) n made ≡ false
  pub started : is_started (steps_of_source s made) ≡ true → all_started

abbrev Claim : Setup → List SourceCall → ℕ → Air → List ℕ → List Sent → ℕ → List Closed → List Handed → Type 0
Claim setup whole bis air ns units e closed entries = Ordered (IsOfUnit setup whole bis air) (e * setup.info.bn) ns units entries

over : Below → (airs : Airs) → MeetAirs airs → (boxes s n bis : ℕ) (setup : Setup) (whole : List SourceCall) (air : Air) (all_started : Type 0) (ns : List ℕ) (units : List Sent) → s ≤ 1 → n ≤ 7
    → 1 ≤ bis → bis ≤ 31
    → setup.info.framing ≡ 1 → Numbered (IsInAir setup whole bis air) 0 ns units → (all_started → bis ≤ setup.info.num_bis → FramedWhole airs setup whole bis units)
    → OverStay (Claim setup whole bis air ns units) (Fine airs boxes s n setup whole all_started) airs s n bis
over below airs meets boxes s n bis setup whole air all_started ns units source_within sink_within least greatest is_framed numbered facts made fine tuning is past entries claim =
    let own : List Step = steps_of_source s made in
    let on : OnSource own tuning = on_source below.announcing airs boxes s n made tuning fine.legal_is is in
    let to : TunedTo setup tuning = stay_on_whole below.announcing airs boxes s n setup whole made tuning fine.legal_is fine.within is in
    let bn_is : tuning.info.bn ≡ setup.info.bn = ap (λ (i : BigInfo). i.bn) to.info in
    let clean : injected_since (is_tuned n) n made ≡ false = clean_stay airs s n made tuning is fine.ungiven fine.clean in
    let opens : opened (stay_on tuning bis) (calls_on airs made n tuning bis) ≤ next_in own = opened_within below airs boxes s n bis made tuning fine.legal_is source_within is in
    let shown : shown_since (is_tuned n) airs s n bis made ≡ of_stream bis (ticked_since (sink_calls airs n made)) =
    ap (of_stream bis) (since airs boxes s n made tuning fine.legal_is source_within sink_within is) in
    let first_within : tuning.first ≤ next_in own = omega (arith, opened_least (stay_on tuning bis) (calls_on airs made n tuning bis), opens) in
    let most : tuning.first * setup.info.bn ≤ next_in own * setup.info.bn = mul-le-mul first_within (omega arith) in
    elim (cases_Bool (is_in tuning.which bis)) [
      | inr free ↦
          subst (λ us. Ordered (IsOfUnit setup whole bis air) (next_in own * setup.info.bn) ns units us)
          (sym (ap (λ us. entries ++ us) (shown ∙ below.others tuning (sink_calls airs n made) bis is.place_is
          (λ taken. true_not_false (is_in tuning.which bis) (member_is tuning.which bis taken).0 free)) ∙ append-nil entries))
          (ordered_later (IsOfUnit setup whole bis air) (tuning.first * setup.info.bn) (next_in own * setup.info.bn) ns units entries most claim)
      | inl taken ↦
          let member : Contains (streams_of tuning.which) bis = is_member tuning.which bis least greatest taken in
          let num_bis : (setup_of own).info.num_bis ≡ setup.info.num_bis = ap (λ (setup' : Setup). setup'.info.num_bis) (fine.within.setup_is on.started) in
          let of_own : bis ≤ (setup_of own).info.num_bis = taken_within (setup_of own).info.num_bis tuning.which bis on.streams member in
          let all : FramedWhole airs setup whole bis units = facts (fine.started on.started) (omega (arith, of_own, num_bis)) in
          let struck_is : shown_since (is_tuned n) airs s n bis made ≡ struck (stay_on tuning bis) units (calls_on airs made n tuning bis) =
          shown ∙ below.framed_hands tuning (sink_calls airs n made) bis (ap (λ (i : BigInfo). i.framing) to.info ∙ is_framed) is.place_is member
          ∙ stay_decided below airs meets boxes s n bis setup whole units all made tuning fine.legal_is fine.within source_within is clean in
          let until : closed_end (stay_on tuning bis) (calls_on airs made n tuning bis) ≤ next_in own * setup.info.bn =
          subst (λ (b : ℕ). opened (stay_on tuning bis) (calls_on airs made n tuning bis) * b ≤ next_in own * setup.info.bn) (sym bn_is) (mul-le-mul opens (omega arith)) in
          let from_until : tuning.first * tuning.info.bn ≤ closed_end (stay_on tuning bis) (calls_on airs made n tuning bis) =
          mul-le-mul (opened_least (stay_on tuning bis) (calls_on airs made n tuning bis)) (omega arith) in
          let middle : tuning.first * setup.info.bn ≤ tuning.first * tuning.info.bn = subst (λ (b : ℕ). tuning.first * b ≤ tuning.first * tuning.info.bn) bn_is (omega arith) in
          let past_opens : opened (stay_on tuning bis) (calls_on airs made n tuning bis) ≤ next_of setup whole = omega (arith, opens, next_of_whole setup whole own fine.within on.started) in
          subst (λ us. Ordered (IsOfUnit setup whole bis air) (next_in own * setup.info.bn) ns units (entries ++ us)) (sym struck_is)
          (ordered_later (IsOfUnit setup whole bis air) (closed_end (stay_on tuning bis) (calls_on airs made n tuning bis)) (next_in own * setup.info.bn) ns units _ until
          (ordered_on (IsInAir setup whole bis air) (IsOfUnit setup whole bis air) (tuning.first * setup.info.bn) (tuning.first * tuning.info.bn)
          (closed_end (stay_on tuning bis) (calls_on airs made n tuning bis)) 0 (laid_end setup all.has.air)
          (entry_of (stay_on tuning bis) (is_heard (stay_on tuning bis) (calls_on airs made n tuning bis)) (closed_end (stay_on tuning bis) (calls_on airs made n tuning bis)))
          ns units entries numbered (sent_in_order setup whole bis all.has.air units all.sent)
          (stay_gives setup whole tuning bis air (calls_on airs made n tuning bis) all.bounds.bn to past_opens) middle from_until claim))
    ]

-- the units that the air sends, with their numbers, where the source was started and has the stream
record Known (airs : Airs) (setup : Setup) (whole : List SourceCall) (bis : ℕ) (air : Air) (all_started : Type 0) : Type 0 where
  pub ns : List ℕ
  pub units : List Sent
  pub numbered : Numbered (IsInAir setup whole bis air) 0 ns units
  pub facts : all_started → bis ≤ setup.info.num_bis → FramedWhole airs setup whole bis units

in_order : Below → (airs : Airs) → MeetAirs airs → (boxes s n bis : ℕ) (made : List Step) → Legal airs boxes made → (setup_of (steps_of_source s made)).info.framing ≡ 1 → s ≤ 1 → n ≤ 7 → 1 ≤ bis
    → bis ≤ 31 → given_since_made n made ≡ false → injected_since (is_made n) n made ≡ false → (all_started : Type 0) → (is_started (steps_of_source s made) ≡ true → all_started)
    → Known airs (setup_of (steps_of_source s made)) (source_calls (steps_of_source s made)) bis (air_in airs (steps_of_source s made) bis) all_started
    → InUnitOrder (setup_of (steps_of_source s made)) (source_calls (steps_of_source s made)) bis (air_in airs (steps_of_source s made) bis) (shown_since (is_made n) airs s n bis made)
in_order below airs meets boxes s n bis made legal is_framed source_within sink_within least greatest ungiven clean all_started started known =
    let own : List Step = steps_of_source s made in
    let setup : Setup = setup_of own in
    let whole : List SourceCall = source_calls own in
    let air : Air = air_in airs own bis in
    let E : ℕ → Handed → Type 0 = IsOfUnit setup whole bis air in
    let turns : Turns (Claim setup whole bis air known.ns known.units) (Fine airs boxes s n setup whole all_started) airs boxes s n bis = record {
      laws = below.announcing;
      none = λ e. ordered_none (IsInAir setup whole bis air) E (e * setup.info.bn) known.ns known.units known.numbered;
      rises = λ e later closed entries more claim. ordered_later E (e * setup.info.bn) (later * setup.info.bn) known.ns known.units entries (mul-le-mul more (omega arith)) claim;
      over = over below airs meets boxes s n bis setup whole air all_started known.ns known.units source_within sink_within least greatest is_framed known.numbered known.facts;
      legal = λ part fine. fine.legal_is;
      ungiven = λ part fine. fine.ungiven;
      before = λ step earlier still fine. record {
        legal_is = fine.legal_is.0;
        within = within_before airs boxes s setup whole earlier step fine.legal_is fine.within;
        ungiven = rest_not (is_made n earlier step) (is_given n step) (given_since_made n earlier) fine.ungiven still;
        clean = rest_not (is_made n earlier step) (is_injected n step) (injected_since (is_made n) n earlier) fine.clean still;
        started = λ started_then. fine.started (goes airs boxes s earlier step fine.legal_is started_then).started;
      };
      source_within = source_within;
      sink_within = sink_within;
    } in
    let all = over_stays (Claim setup whole bis air known.ns known.units) (Fine airs boxes s n setup whole all_started) airs boxes s n bis turns made
    (record { legal_is = legal; within = within_itself own; ungiven = ungiven; clean = clean; started = started }) in
    record { numbers = all.all.numbers; rising = climbs 0 all.all.numbers all.all.high all.all.climb; each = all.all.each }

known_units : Below → (airs : Airs) → MeetAirs airs → (own : List Step) (bis : ℕ) → Lawful airs own → is_started own ≡ true → (setup_of own).info.framing ≡ 1 → 1 ≤ bis
    → Known airs (setup_of own) (source_calls own) bis (air_in airs own bis) (Unit {0})
known_units below airs meets own bis legal started is_framed least = elim (cases_low bis (setup_of own).info.num_bis) [
  | inl within ↦
      let units = whole_units below airs meets own bis legal started is_framed least within in
      let numbered = are_numbered (setup_of own).info.bn (layings_of (framed_calls (setup_of own) bis (source_calls own))) (accepted (framed_calls (setup_of own) bis (source_calls own)))
      units.1.sent.in_air units.1.sent.sends.are in
      record {
        ns = numbered.0;
        units = units.0;
        numbered = numbered_each (IsSent (setup_of own) (source_calls own) bis) (IsInAir (setup_of own) (source_calls own) bis (air_in airs own bis)) 0 numbered.0 units.0
            (grind (arith, in_air, setup_of, source_calls, air_in, same_air)) (grind (arith, setup_of, source_calls, numbered_on));
        facts = λ all_started below_num. units.1;
      }
  | inr past ↦ record { ns = []; units = []; numbered = tt; facts = λ all_started below_num. absurd (omega (arith, past, below_num)) }
]

pub entries_in_order : Below → (airs : Airs) → MeetAirs airs → (boxes s n bis : ℕ) (made : List Step) → Legal airs boxes made → (setup_of (steps_of_source s made)).info.framing ≡ 1 → s ≤ 1 → n ≤ 7
    → 1 ≤ bis → bis ≤ 31 → given_since_made n made ≡ false → injected_since (is_made n) n made ≡ false
    → InUnitOrder (setup_of (steps_of_source s made)) (source_calls (steps_of_source s made)) bis (air_in airs (steps_of_source s made) bis) (shown_since (is_made n) airs s n bis made)
entries_in_order below airs meets boxes s n bis made legal is_framed source_within sink_within least greatest ungiven clean = elim (cases_Bool (is_started (steps_of_source s made))) [
  | inl started ↦
      in_order below airs meets boxes s n bis made legal is_framed source_within sink_within least greatest ungiven clean (Unit {0}) (λ is. tt)
      (known_units below airs meets (steps_of_source s made) bis (lawful airs boxes s made legal) started is_framed least)
  | inr idle ↦
      in_order below airs meets boxes s n bis made legal is_framed source_within sink_within least greatest ungiven clean ⊥ (λ is. true_not_false (is_started (steps_of_source s made)) is idle)
      (record { ns = []; units = []; numbered = tt; facts = λ never below_num. absurd never })
]

-- Closing an event for one sink after the other.
use Rattle.scenario_sinks.proofs.Prelude.{◌≡◌, ◌≢◌, ℕ, ◌+◌, ◌<◌, ◌≤◌, List, [], ◌∷◌, ◌++◌, length, map, OnOk, refl, sym, ◌∙◌, ap, subst, slice_get, slice_set, get_or, eq-eqb, arith, Bool, true, false, ◌&&◌, if◌then◌else◌, Option, is_some, Result, Ok, Err, None, Some, ◌⊎◌, inr, flat_map, range_with_len, flat_map-append, append-nil, slice_get-get_or, on_ok_weaker, cases_eq, Account, Handed, Call, tick, is_of, ticked_if, SinkUnit, most_sinks, closing_by, accounts_after, unit_lines, get_set_here, get_set_other, Gathered, Owner, Sink, Stop, Histories, with_close, with_close_at, Hands, Sinks, calls_of, handed_of, units_for, EntryIs, EntryAt, EntriesAre, SinksStand, histories_of, SinkCloses, SinkHands, AllClose, Between, EntriesFrom, OneBetween, OneCloses, Unmoved, Settings, IsSink, receiving}
use Rattle.group_sink.specs.Handing.{handed_at}
use Rattle.sink_history.specs.Calls as links
use Rattle.scenario_history.specs.Boxes.{sink_numbers}
use Rattle.scenario_sinks.specs.Closing.{Closes, ClosesAt, closing_of, closings, handed_all}
use Rattle.scenario_sinks.proofs.Entries.{OthersStay, SinkIs, entry_of, one_entry}
use Rattle.scenario_sinks.proofs.Citable.{hands_stop, hands_then}
use Rattle.scenario_sinks.proofs.Ranges.{range_append}

pub closings_more : (source event : ℕ) (past : Histories) (n : ℕ)
    → closings source event past (range_with_len 0 (n + 1)) ≡ closings source event past (range_with_len 0 n) ++ closing_by source event n (past.received n) (past.sources n) (past.boxes n)
closings_more source event past n = grind (arith, closing_by, flat_map, range_append, flat_map-append, range_with_len, append-nil)

pub closings_split : (source event : ℕ) (past : Histories) (n k : ℕ) → n + k ≡ most_sinks
    → closings source event past sink_numbers ≡ closings source event past (range_with_len 0 n) ++ closings source event past (range_with_len n k)
unfolding sink_numbers
closings_split source event past n k e =
    let each : ℕ → List SinkUnit = λ i. closing_by source event i (past.received i) (past.sources i) (past.boxes i) in
    let f : 0 + n ≡ n = omega arith in
    ap (λ m. flat_map each (range_with_len 0 m)) (sym e) ∙ ap (flat_map each) (range_append 0 n k)
    ∙ flat_map-append each (range_with_len 0 n) (range_with_len (0 + n) k)
    ∙ ap (λ m. flat_map each (range_with_len 0 n) ++ flat_map each (range_with_len m k)) f

entry_after : (past : Histories) (source event number : ℕ) (sinks : List (Option Sink)) (entry : Option Sink) (n : ℕ)
    → number < length sinks → EntryAt (with_close source (Some event) past) number (Some entry)
    → ((m : ℕ) → m < number → EntryAt (with_close source (Some event) past) m (slice_get sinks m)) → n < number + 1
    → (n ≡ number) ⊎ (n ≢ number) → EntryAt (with_close source (Some event) past) n (slice_get (slice_set sinks number entry) n)
entry_after past source event number sinks entry n within here done below x12 =
    grind (arith, with_close, slice_get, slice_set, get_set_here, get_set_other)

pub between_next : (past : Histories) (source event number : ℕ) (sinks : List (Option Sink)) (entry : Option Sink) (gathered next : Gathered)
    (text told told2 : List ℕ) (before mid after : List Account) → length sinks ≡ most_sinks → number < most_sinks
    → Between past source event number sinks gathered text told before mid
    → SinkCloses (past.boxes number) (past.mades number) (past.sources number) (past.lives number) (past.received number) number source event entry next told told2 mid after (Ok tt)
    → Between past source event (number + 1) (slice_set sinks number entry) next text told2 before after
between_next past source event number sinks entry gathered next text told told2 before mid after eight within b s =
    let inside : number < length sinks = omega arith in
    let h = hands_then (closings source event past (range_with_len 0 number)) (closing_by source event number (past.received number) (past.sources number) (past.boxes number)) text told
    told2 before mid after (Ok tt) b.lines b.boxes_are s.hands in
    record {
      done = λ n below. entry_after past source event number sinks entry n inside s.is_ticked.entry_is b.done below (cases_eq n number);
      left = grind (arith, get_set_other);
      empty = s.is_ticked.empty;
      lines = h.0 ∙ ap (λ units. text ++ unit_lines units) (sym (closings_more source event past number));
      boxes_are = h.1 ∙ ap (accounts_after before) (sym (closings_more source event past number));
    }

pub between_ends : (past : Histories) (source event number k : ℕ) (sinks sinks2 : List (Option Sink)) (entry : Option Sink) (gathered next : Gathered)
    (text told told2 : List ℕ) (before mid after : List Account) (stop : Stop) → number + 1 + k ≡ most_sinks
    → Between past source event number sinks gathered text told before mid
    → SinkCloses (past.boxes number) (past.mades number) (past.sources number) (past.lives number) (past.received number) number source event entry next told told2 mid after (Err stop)
    → AllClose past source event sinks2 next text told2 before after (Err stop)
between_ends past source event number k sinks sinks2 entry gathered next text told told2 before mid after stop all b s =
    let prefix : List SinkUnit = closings source event past (range_with_len 0 number) in
    let here : List SinkUnit = closing_by source event number (past.received number) (past.sources number) (past.boxes number) in
    let rest : List SinkUnit = closings source event past (range_with_len (number + 1) k) in
    let P : List SinkUnit → Type 0 = λ units. Hands units text told2 before after (Err stop) in
    record {
      hands = subst P (sym (closings_split source event past (number + 1) k all ∙ ap (λ units. units ++ rest) (closings_more source event past number)))
          (hands_stop (prefix ++ here) rest text told2 before after stop
          (hands_then prefix here text told told2 before mid after (Err stop) b.lines b.boxes_are s.hands));
      is_ticked = tt;
    }

pub between_over : (past : Histories) (source event number : ℕ) (sinks : List (Option Sink)) (gathered : Gathered) (text told : List ℕ) (before after : List Account)
    → number ≡ most_sinks → Between past source event number sinks gathered text told before after
    → AllClose past source event sinks gathered text told before after (Ok tt)
between_over past source event number sinks gathered text told before after all b =
    let zero_more : number + 0 ≡ most_sinks = omega arith in
    let e = closings_split source event past number 0 zero_more ∙ append-nil (closings source event past (range_with_len 0 number)) in
    record {
      hands = (b.lines ∙ ap (λ units. text ++ unit_lines units) (sym e), b.boxes_are ∙ ap (accounts_after before) (sym e));
      is_ticked = grind arith;
    }

-- the entry of the next sink
pub entry_here : (past : Histories) (number at : ℕ) (sinks : List (Option Sink)) (d : Option Sink) → at ≡ number → length sinks ≡ most_sinks → number < most_sinks
    → EntriesFrom past number sinks → EntryAt past number (Some (get_or sinks at d))
entry_here past number at sinks d same eight below left = grind (arith, length, slice_get, slice_get-get_or)

-- the entries of those behind it
pub entries_next : (past : Histories) (number at : ℕ) (sinks : List (Option Sink)) (entry : Option Sink) → at ≡ number → EntriesFrom past number sinks
    → EntriesFrom past (number + 1) (slice_set sinks at entry)
entries_next past number at sinks entry same left n least below = grind (arith, get_set_other)

pub between_next_at : (past : Histories) (source event number at : ℕ) (sinks : List (Option Sink)) (entry : Option Sink) (gathered next : Gathered)
    (text told told2 : List ℕ) (before mid after : List Account) → at ≡ number → length sinks ≡ most_sinks → number < most_sinks
    → Between past source event number sinks gathered text told before mid
    → SinkCloses (past.boxes number) (past.mades number) (past.sources number) (past.lives number) (past.received number) number source event entry next told told2 mid after (Ok tt)
    → Between past source event (number + 1) (slice_set sinks at entry) next text told2 before after
between_next_at past source event number at sinks entry gathered next text told told2 before mid after same eight within b s =
    let P : ℕ → Type 0 = λ i. Between past source event (number + 1) (slice_set sinks i entry) next text told2 before after in
    subst P (sym same) (between_next past source event number sinks entry gathered next text told told2 before mid after eight within b s)

-- the sinks after a close
pub all_closed : (past : Histories) (source event : ℕ) (closed : Option ℕ) (old new : Sinks) (sinks : List (Option Sink)) (text told : List ℕ)
    (before after : List Account) (r : Result (Unit {0}) Stop)
    → SinksStand past old → closed ≡ Some event → new.entries.items ≡ sinks → AllClose past source event sinks new.gathered text told before after r → new.outlet_count ≡ old.outlet_count
    → Closes past source closed new text told before after r
all_closed past source event closed old new sinks text told before after r stands is items c more = grind (arith, with_close, on_ok_weaker)

entry_kept : (past : Histories) (n : ℕ) (b : Bool) (entry : Option (Option Sink)) → EntryAt past n entry
    → EntryIs (past.boxes n) (past.mades n) (past.sources n) (past.lives n) (ticked_if b None (past.received n)) entry
entry_kept past n b entry is = grind arith

-- no event is open
pub none_closed : (past : Histories) (source : ℕ) (closed : Option ℕ) (old : Sinks) (text : List ℕ) (before : List Account)
    → SinksStand past old → closed ≡ None → Closes past source closed old text text before before (Ok tt)
none_closed past source closed old text before stands is = grind (arith, append-nil, entry_kept, is_of, slice_get)

pub lent_entries : (past : Histories) (sinks lent : List (Option Sink)) → lent ≡ sinks → EntriesAre past sinks → EntriesAre past lent
lent_entries past sinks lent is are = let E : List (Option Sink) → Type 0 = λ s. EntriesAre past s in subst E (sym is) are

-- ---- one sink

pub gathered_are : (old new units : List Handed) → old ≡ [] → new ≡ old ++ units → new ≡ units
gathered_are old new units empty e = e ∙ ap (λ xs. xs ++ units) empty

-- what was handed up of a sink's units is these units
handed_back : (owner : Owner) (units : List Handed) → handed_all (units_for owner units) ≡ units
handed_back owner [] = refl
handed_back owner (unit ∷ units) = ap (λ rest. unit ∷ rest) (handed_back owner units)

pub sink_hands : (box : Option ℕ) (made : Option Settings) (own : Option ℕ) (calls_made : List links.Call) (received : List Call) (owner : Owner)
    (event : ℕ) (sink new : Sink)
    (units : List Handed) (gathered : Gathered) (text told : List ℕ) (before after : List Account) (r : Result (Unit {0}) Stop)
    → (is : SinkIs box made own calls_made received sink) → is_of owner.source own ≡ true → owner.outlet ≡ sink.outlet
    → units ≡ handed_at received event → Hands (units_for owner units) text told before after r
    → new.outlet ≡ sink.outlet → IsSink (receiving (tick event) (histories_of is.how own calls_made received)) new.living → OnOk r (calls_of gathered ≡ units)
    → SinkHands box made own calls_made received owner.sink owner.source event (Some new) gathered text told before after r
sink_hands box made own calls_made received owner event sink new units gathered text told before after r is mine at e hands outlet lives held =
    let box_at : box ≡ Some owner.outlet = is.box_is ∙ ap Some (sym at) in
    let own_units : closing_by owner.source event owner.sink received own box ≡ units_for owner (handed_at received event) = rw (mine, box_at) refl in
    let here : EntryIs box made own calls_made (ticked_if (is_of owner.source own) (Some event) received) (Some (Some new)) = grind (arith, entry_of, tick) in
    let P : List SinkUnit → Type 0 = λ us. Hands us text told before after r in
    record { hands = subst P (ap (units_for owner) e ∙ sym own_units) hands; is_held = grind (arith, on_ok_weaker, handed_back) }

-- a sink of another source
pub sink_left : (box : Option ℕ) (made : Option Settings) (own : Option ℕ) (calls_made : List links.Call) (received : List Call)
    (n source event : ℕ) (sink : Sink)
    (from : Option ℕ) (of : Bool) (gathered : Gathered) (text : List ℕ) (before : List Account) → SinkIs box made own calls_made received sink
    → from ≡ own → of ≡ is_of source from → of ≡ false → calls_of gathered ≡ []
    → SinkHands box made own calls_made received n source event (Some sink) gathered text text before before (Ok tt)
sink_left box made own calls_made received n source event sink from of gathered text before is f o t empty =
    grind (arith, is_of, ticked_if, entry_of, append-nil, map, handed_of)

none_handed : (of : Bool) (units : List SinkUnit) → units ≡ [] → (if of then units else []) ≡ []
none_handed of units none = grind arith

-- no sink, or one of another source
pub sink_rests : (box : Option ℕ) (made : Option Settings) (own : Option ℕ) (calls_made : List links.Call) (received : List Call)
    (n source event : ℕ) (entry : Option Sink)
    (gathered : Gathered) (text : List ℕ) (before : List Account) → EntryIs box made own calls_made received (Some entry) → (is_some box && is_of source own) ≡ false
    → calls_of gathered ≡ [] → SinkCloses box made own calls_made received n source event entry gathered text text before before (Ok tt)
sink_rests box made own calls_made received n source event entry gathered text before is other empty =
    grind (arith, none_handed, is_of, append-nil, ticked_if)

no_units : (box : Option ℕ) (own : Option ℕ) (received : List Call) (n source event : ℕ) → (is_some box && is_of source own) ≡ false
    → closing_by source event n received own box ≡ []
no_units box own received n source event other = grind (arith, none_handed, is_of)

pub sink_rests_held : (box : Option ℕ) (made : Option Settings) (own : Option ℕ) (calls_made : List links.Call) (received : List Call)
    (n source event : ℕ) (entry : Option Sink)
    (gathered : Gathered) (text : List ℕ) (before : List Account) → EntryIs box made own calls_made received (Some entry) → (is_some box && is_of source own) ≡ false
    → calls_of gathered ≡ [] → SinkHands box made own calls_made received n source event entry gathered text text before before (Ok tt)
sink_rests_held box made own calls_made received n source event entry gathered text before is other empty =
    let rests = sink_rests box made own calls_made received n source event entry gathered text before is other empty in
    record { hands = rests.hands; is_held = grind (arith, map, handed_of, no_units) }

pub not_both : (b : Bool) → b ≡ true → b ≡ false → ⊥
not_both b is other = cc (sym is ∙ other)

-- its units are gathered no more
pub sink_closes : (box : Option ℕ) (made : Option Settings) (own : Option ℕ) (calls_made : List links.Call) (received : List Call)
    (n source event : ℕ) (entry : Option Sink)
    (held gathered : Gathered) (text told : List ℕ) (before after : List Account) (r : Result (Unit {0}) Stop)
    → SinkHands box made own calls_made received n source event entry held text told before after r → OnOk r (calls_of gathered ≡ [])
    → SinkCloses box made own calls_made received n source event entry gathered text told before after r
sink_closes box made own calls_made received n source event entry held gathered text told before after r h empty = grind arith

-- ---- one sink among all, which lends its units

close_stays : (n source event : ℕ) (past : Histories) → OthersStay n past (with_close_at n source event past)
close_stays n source event past = grind arith

-- ---- one sink alone

one_hands : (past : Histories) (n source event : ℕ) (sinks now : List (Option Sink)) (gathered : Gathered) (text told more : List ℕ) (before mid after : List Account)
    (r : Result (Unit {0}) Stop) → Unmoved sinks now gathered text told before mid → Hands (closing_of n source event past) told more mid after r
    → Hands (closing_of n source event past) text more before after r
one_hands past n source event sinks now gathered text told more before mid after r u hands = grind arith

one_closes : (past : Histories) (n at source event : ℕ) (sinks now : List (Option Sink)) (entry : Option Sink) (gathered next : Gathered) (text told more : List ℕ)
    (before mid after : List Account) (r : Result (Unit {0}) Stop) → at ≡ n → n < most_sinks → length now ≡ most_sinks → EntriesAre past sinks
    → Unmoved sinks now gathered text told before mid
    → SinkHands (past.boxes n) (past.mades n) (past.sources n) (past.lives n) (past.received n) n source event entry next told more mid after r
    → OneCloses past n source event (slice_set now at entry) next text more before after r
one_closes past n at source event sinks now entry gathered next text told more before mid after r same within eight are u h = record {
  hands = one_hands past n source event sinks now gathered text told more before mid after r u h.hands;
  is_held = on_ok_weaker r (λ is. record {
    entries = one_entry n at past (with_close_at n source event past) now entry same within eight (close_stays n source event past)
        (subst (λ s. EntriesAre past s) (sym u.sinks_same) are) (rw (eq-eqb n n refl) is.entry_is);
    held = is.held;
  }) h.is_held;
}

first_now : (past : Histories) (first source event number end : ℕ) (sinks now : List (Option Sink)) (gathered : Gathered) (text told : List ℕ) (before after : List Account)
    → number < end → end ≡ first + 1 → OneBetween past first source event number sinks now gathered text told before after
    → (number ≡ first) × Unmoved sinks now gathered text told before after
first_now past first source event number end sinks now gathered text told before after less alone x16 = grind arith

pub one_next : (past : Histories) (first at source event number end : ℕ) (sinks now : List (Option Sink)) (entry : Option Sink) (gathered next : Gathered) (text told more : List ℕ)
    (before mid after : List Account) → at ≡ number → number < most_sinks → length now ≡ most_sinks → EntriesAre past sinks → number < end → end ≡ first + 1
    → OneBetween past first source event number sinks now gathered text told before mid → (calls_of gathered ≡ []
    → SinkHands (past.boxes number) (past.mades number) (past.sources number) (past.lives number) (past.received number) number source event entry next told more mid after (Ok tt))
    → OneBetween past first source event (number + 1) sinks (slice_set now at entry) next text more before after
one_next past first at source event number end sinks now entry gathered next text told more before mid after same within eight are less alone b h =
    let f = first_now past first source event number end sinks now gathered text told before mid less alone b in
    inr (
      ap (λ m. m + 1) f.0,
      subst (λ m. OneCloses past m source event (slice_set now at entry) next text more before after (Ok tt)) f.0
          (one_closes past number at source event sinks now entry gathered next text told more before mid after (Ok tt) same within eight are f.1 (h f.1.empty)),
    )

pub one_ends : (past : Histories) (first source event number end : ℕ) (sinks now last : List (Option Sink)) (entry : Option Sink) (gathered next : Gathered) (text told more : List ℕ)
    (before mid after : List Account) (stop : Stop) → number < end → end ≡ first + 1
    → OneBetween past first source event number sinks now gathered text told before mid → (calls_of gathered ≡ []
    → SinkHands (past.boxes number) (past.mades number) (past.sources number) (past.lives number) (past.received number) number source event entry next told more mid after (Err stop))
    → OneCloses past first source event last next text more before after (Err stop)
one_ends past first source event number end sinks now last entry gathered next text told more before mid after stop less alone b h =
    grind (arith, first_now, one_hands)

pub one_over : (past : Histories) (first source event number end : ℕ) (sinks now : List (Option Sink)) (gathered : Gathered) (text told : List ℕ) (before after : List Account)
    → end ≤ number → end ≡ first + 1 → OneBetween past first source event number sinks now gathered text told before after
    → OneCloses past first source event now gathered text told before after (Ok tt)
one_over past first source event number end sinks now gathered text told before after least alone x16 = grind arith

-- what became of the sinks by a close of one
pub closed_one : (past : Histories) (n source event : ℕ) (old new : Sinks) (sinks : List (Option Sink)) (text told : List ℕ) (before after : List Account) (r : Result (Unit {0}) Stop)
    → SinksStand past old → new.entries.items ≡ sinks → OneCloses past n source event sinks new.gathered text told before after r → new.outlet_count ≡ old.outlet_count
    → ClosesAt past n source event new text told before after r
closed_one past n source event old new sinks text told before after r stands items c more = grind (arith, with_close_at, on_ok_weaker)

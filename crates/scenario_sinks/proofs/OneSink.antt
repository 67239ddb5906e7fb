-- The sinks after a call for one of them.
use Rattle.scenario_sinks.proofs.Prelude.{◌≡◌, ℕ, ◌+◌, ◌<◌, ◌≤◌, true, false, List, length, refl, sym, ◌∙◌, ap, is_some, slice_set, get_or, eq-eqb, arith, Option, None, Some, Result, Ok, Err, le-leb, lt-leb, BigSync, Hearing, most_sinks, Sink, Sinks, Stop, Refused, OutletFault, Memory, Histories, with_sink, without, with_tuning, with_hearing, with_heard, heard_calls, is_of, if◌then◌else◌, EntryIs, EntryAt, SinksStand, EntryHears, EntryTunes, Settings, IsSink, new_sink}
use Rattle.transcript_text.specs.declared.refusal.Refusal.TheVariants.{SinkTwice, NoOutlet}
use Rattle.scenario_sinks.specs.Hearing.{Hears}
use Rattle.scenario_sinks.specs.Refusals.{Answers, Tunes, not_made, not_living, not_tuned}
use Rattle.scenario_sinks.proofs.Entries.{OthersStay, one_entry, entry_read, none_lives, lives_in, sink_in}

-- the sinks where the entry of a number is new
pub one_changed : (n at : ℕ) (past next : Histories) (old new : Sinks) (entry : Option Sink) → at ≡ n → n < most_sinks → length old.entries.items ≡ most_sinks
    → OthersStay n past next → SinksStand past old → EntryAt next n (Some entry) → new.entries.items ≡ slice_set old.entries.items at entry
    → new.outlet_count ≡ next.made → new.gathered ≡ old.gathered → SinksStand next new
one_changed n at past next old new entry same within eight others stands here set made gathered = grind (arith, one_entry, made)

-- ---- a sink is made

make_stays : (n : ℕ) (how : Settings) (past : Histories) → OthersStay n past (with_sink n how past)
make_stays n how past = grind arith

pub made : (boxes n at : ℕ) (how : Settings) (past : Histories) (old new : Sinks) (entry : Option Sink) (sink : Sink) → SinksStand past old
    → at ≡ n → n < most_sinks → length old.entries.items ≡ most_sinks → entry ≡ get_or old.entries.items at entry → is_some entry ≡ false
    → old.outlet_count < boxes → sink.outlet ≡ old.outlet_count → IsSink (new_sink how) sink.living
    → new.entries.items ≡ slice_set old.entries.items at (Some sink) → new.outlet_count ≡ old.outlet_count + 1 → new.gathered ≡ old.gathered
    → Answers (not_made (past.boxes n) past.made boxes) past (with_sink n how past) new (Ok tt)
made boxes n at how past old new entry sink stands same within eight is none room outlet fresh set more gathered =
    let here : EntryAt past n (Some entry) = entry_read past n at old.entries.items entry same eight within is stands.entries in
    let free : past.boxes n ≡ None = none_lives (past.boxes n) (past.mades n) (past.sources n) (past.lives n) (past.received n) entry here none in
    let left : past.made < boxes = omega (arith, stands.made) in
    let next : EntryAt (with_sink n how past) n (Some (Some sink)) = rw (eq-eqb n n refl) (sink, refl, outlet ∙ stands.made, how, refl, fresh) in (
      rw (free, lt-leb boxes past.made left) refl,
      one_changed n at past (with_sink n how past) old new (Some sink) same within eight (make_stays n how past) stands next set (more ∙ ap (λ k. k + 1) stands.made) gathered,
    )

-- a sink of the number lives
pub taken : (boxes n at : ℕ) (how : Settings) (past : Histories) (old : Sinks) (entry : Option Sink) → SinksStand past old → at ≡ n
    → n < most_sinks → length old.entries.items ≡ most_sinks → entry ≡ get_or old.entries.items at entry → is_some entry ≡ true
    → Answers (not_made (past.boxes n) past.made boxes) past (with_sink n how past) old (Err (Refused SinkTwice))
taken boxes n at how past old entry stands same within eight is some =
    let here : EntryAt past n (Some entry) = entry_read past n at old.entries.items entry same eight within is stands.entries in
    let lives : is_some (past.boxes n) ≡ true = sym (lives_in (past.boxes n) (past.mades n) (past.sources n) (past.lives n) (past.received n) entry here) ∙ some in
    (rw lives refl, stands)

-- no box is left
pub no_box : (boxes n at : ℕ) (how : Settings) (past : Histories) (old : Sinks) (entry : Option Sink) → SinksStand past old → at ≡ n
    → n < most_sinks → length old.entries.items ≡ most_sinks → entry ≡ get_or old.entries.items at entry → is_some entry ≡ false
    → boxes ≤ old.outlet_count → Answers (not_made (past.boxes n) past.made boxes) past (with_sink n how past) old (Err (Refused NoOutlet))
no_box boxes n at how past old entry stands same within eight is none full =
    let here : EntryAt past n (Some entry) = entry_read past n at old.entries.items entry same eight within is stands.entries in
    let free : past.boxes n ≡ None = none_lives (past.boxes n) (past.mades n) (past.sources n) (past.lives n) (past.received n) entry here none in
    let less : boxes ≤ past.made = omega (arith, stands.made) in
    (rw (free, le-leb boxes past.made less) refl, stands)

-- ---- a sink ends

end_stays : (n : ℕ) (past : Histories) → OthersStay n past (without n past)
end_stays n past = grind arith

pub ended : (n at : ℕ) (past : Histories) (old new : Sinks) (sink : Sink) → SinksStand past old → at ≡ n → n < most_sinks
    → length old.entries.items ≡ most_sinks → Some sink ≡ get_or old.entries.items at (Some sink)
    → new.entries.items ≡ slice_set old.entries.items at None → new.outlet_count ≡ old.outlet_count → new.gathered ≡ old.gathered
    → Answers (not_living (past.boxes n)) past (without n past) new (Ok tt)
ended n at past old new sink stands same within eight is set more gathered =
    let before : EntryAt past n (Some (Some sink)) = entry_read past n at old.entries.items (Some sink) same eight within is stands.entries in
    let was = sink_in (past.boxes n) (past.mades n) (past.sources n) (past.lives n) (past.received n) (Some sink) sink before refl in
    let here : EntryAt (without n past) n (Some None) = rw (eq-eqb n n refl) (refl, refl) in (
      rw was.box_is refl,
      one_changed n at past (without n past) old new None same within eight (end_stays n past) stands here set (more ∙ stands.made) gathered,
    )

-- ---- a sink is synchronized to a BIG

tune_stays : (n source : ℕ) (big_sync : BigSync) (past : Histories) → OthersStay n past (with_tuning n source big_sync past)
tune_stays n source big_sync past = grind arith

pub same_stays : (n : ℕ) (past : Histories) → OthersStay n past past
same_stays n past = record { boxes = λ m apart. refl; mades = λ m apart. refl; sources = λ m apart. refl; lives = λ m apart. refl; received = λ m apart. refl }

pub tuned : (n at source : ℕ) (big_sync : BigSync) (past : Histories) (old new : Sinks) (entry : Option Sink) (r : Result (Unit {0}) Stop) → SinksStand past old → at ≡ n
    → n < most_sinks → length old.entries.items ≡ most_sinks
    → EntryTunes (past.boxes n) (past.mades n) (past.sources n) (past.lives n) (past.received n) source big_sync entry r
    → new.entries.items ≡ slice_set old.entries.items at entry → new.outlet_count ≡ old.outlet_count → new.gathered ≡ old.gathered
    → Tunes (not_tuned (past.boxes n) big_sync.info.num_bis big_sync.which) past (with_tuning n source big_sync past) new r
tuned n at source big_sync past old new entry (Ok x) stands same within eight t set more gathered =
    let here : EntryAt (with_tuning n source big_sync past) n (Some entry) = rw (eq-eqb n n refl) t.1 in
    (t.0, one_changed n at past (with_tuning n source big_sync past) old new entry same within eight (tune_stays n source big_sync past) stands here set (more ∙ stands.made) gathered)
tuned n at source big_sync past old new entry (Err (Refused reason)) stands same within eight t set more gathered =
    (t.0, one_changed n at past past old new entry same within eight (same_stays n past) stands t.1 set (more ∙ stands.made) gathered)
tuned n at source big_sync past old new entry (Err OutletFault) stands same within eight t set more gathered = t
tuned n at source big_sync past old new entry (Err Memory) stands same within eight t set more gathered = tt

-- ---- a sink hears

hear_stays : (n source event bis subevent : ℕ) (octets : List ℕ) (past : Histories) → OthersStay n past (with_hearing n source event bis subevent octets past)
hear_stays n source event bis subevent octets past = grind arith

pub heard : (n at source event bis subevent : ℕ) (octets : List ℕ) (past : Histories) (old new : Sinks) (entry : Option Sink) (r : Option Hearing) → SinksStand past old → at ≡ n
    → n < most_sinks → length old.entries.items ≡ most_sinks
    → EntryHears (past.boxes n) (past.mades n) (past.sources n) (past.lives n) (past.received n) source event bis subevent octets entry r
    → new.entries.items ≡ slice_set old.entries.items at entry → new.outlet_count ≡ old.outlet_count → new.gathered ≡ old.gathered
    → Hears past n source event bis subevent octets new r
heard n at source event bis subevent octets past old new entry None stands same within eight h set more gathered = h
heard n at source event bis subevent octets past old new entry (Some hearing) stands same within eight h set more gathered =
    let here : EntryAt (with_hearing n source event bis subevent octets past) n (Some entry) = rw (eq-eqb n n refl) h.2 in (
      h.0,
      h.1,
      one_changed n at past (with_hearing n source event bis subevent octets past) old new entry same within eight
          (hear_stays n source event bis subevent octets past) stands here set (more ∙ stands.made) gathered,
    )

event_stays : (n source event bis : ℕ) (pdus : List (Option (List ℕ))) (past : Histories) → OthersStay n past (with_heard n source event bis pdus past)
event_stays n source event bis pdus past = grind arith

pub heard_event : (n at source event bis : ℕ) (pdus : List (Option (List ℕ))) (past : Histories) (old new : Sinks) (entry : Option Sink) → SinksStand past old → at ≡ n
    → n < most_sinks → length old.entries.items ≡ most_sinks → EntryIs (past.boxes n) (past.mades n) (past.sources n) (past.lives n)
    (if is_of source (past.sources n) then heard_calls event bis pdus (past.received n) else past.received n) (Some entry)
    → new.entries.items ≡ slice_set old.entries.items at entry → new.outlet_count ≡ old.outlet_count → new.gathered ≡ old.gathered
    → SinksStand (with_heard n source event bis pdus past) new
heard_event n at source event bis pdus past old new entry stands same within eight h set more gathered =
    let here : EntryAt (with_heard n source event bis pdus past) n (Some entry) = rw (eq-eqb n n refl) h in
    one_changed n at past (with_heard n source event bis pdus past) old new entry same within eight
    (event_stays n source event bis pdus past) stands here set (more ∙ stands.made) gathered

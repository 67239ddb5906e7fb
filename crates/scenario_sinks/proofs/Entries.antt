-- The entries of the sinks, of which one changes.
use Rattle.scenario_sinks.proofs.Prelude.{◌≡◌, ◌≢◌, ℕ, zero, suc, ◌<◌, ◌==◌, Bool, true, false, ◌&&◌, List, length, replicate, refl, ◌∙◌, ap, ne_eqb, slice_get, slice_set, get_or, is_some, arith, Option, None, Some, Result, Ok, ◌⊎◌, slice_get-get_or, cases_eq, Settings, BigSync, Call, hear, tune, Hearing, is_of, most_sinks, get_set_here, get_set_other, Sink, Histories, EntryIs, EntryAt, EntriesAre, histories_of, EntryHears, EntryRuns, EntryTunes, Step, Source, calls_by, received_by, source_by, Stop, IsSink, after_tuning, receiving, hearing_event, heard_calls, if◌then◌else◌}
use Rattle.group_sink.specs.Hearings.{hearing_of}
use Rattle.isoal_base.specs.declared.hearing.Hearing.TheVariants.{NotOnGroup}
use Rattle.scenario_history.specs.Refusals.{has_beyond}
use Rattle.sink_history.specs.Calls as links
use Rattle.scenario_sinks.specs.Hearing.{hearing_where}
use Rattle.scenario_sink.specs.Making.{LineMakes}

-- ---- the sink of one entry

pub none_lives : (box : Option ℕ) (made : Option Settings) (own : Option ℕ) (calls_made : List links.Call) (received : List Call) (entry : Option Sink)
    → EntryIs box made own calls_made received (Some entry) → is_some entry ≡ false → box ≡ None
none_lives box made own calls_made received entry is none = grind (arith, is_some)

-- what an entry says of its sink
pub record SinkIs (box : Option ℕ) (made : Option Settings) (own : Option ℕ) (calls_made : List links.Call) (received : List Call)
    (sink : Sink) : Type 0 where
  pub box_is : box ≡ Some sink.outlet
  pub how : Settings
  pub made_is : made ≡ Some how
  pub lives : IsSink (histories_of how own calls_made received) sink.living

some_same : {A : Type 0} (entry : Option A) (one other : A) → Some entry ≡ Some (Some one) → entry ≡ Some other → one ≡ other
some_same entry one other e f = cc (e, f)

none_some : {A : Type 0} (entry : Option A) (one : A) → Some entry ≡ Some None → entry ≡ Some one → ⊥
none_some entry one e f = cc (e, f)

pub sink_in : (box : Option ℕ) (made : Option Settings) (own : Option ℕ) (calls_made : List links.Call) (received : List Call) (entry : Option Sink) (sink : Sink)
    → EntryIs box made own calls_made received (Some entry) → entry ≡ Some sink → SinkIs box made own calls_made received sink
sink_in box made own calls_made received entry sink is e = grind (arith, none_some, some_same, histories_of)

pub entry_of : (box : Option ℕ) (made : Option Settings) (own : Option ℕ) (calls_made : List links.Call) (received : List Call) (sink : Sink)
    → SinkIs box made own calls_made received sink → EntryIs box made own calls_made received (Some (Some sink))
entry_of None made own calls_made received sink is = absurd (cc is.box_is)
entry_of (Some box) made own calls_made received sink is =
    let outlet : sink.outlet ≡ box = cc is.box_is in
    (sink, refl, outlet, is.how, is.made_is, is.lives)

pub lives_in : (box : Option ℕ) (made : Option Settings) (own : Option ℕ) (calls_made : List links.Call) (received : List Call) (entry : Option Sink)
    → EntryIs box made own calls_made received (Some entry) → is_some entry ≡ is_some box
lives_in box made own calls_made received entry is = grind (arith, is_some)

-- whether the sink of an entry is of this source
pub sink_of : (box : Option ℕ) (made : Option Settings) (own : Option ℕ) (calls_made : List links.Call) (received : List Call) (source : ℕ)
    (entry : Option Sink) (sink : Sink)
    (from : Option ℕ) → EntryIs box made own calls_made received (Some entry) → entry ≡ Some sink → from ≡ own → is_of source from ≡ (is_some box && is_of source own)
sink_of box made own calls_made received source entry sink from is e f = grind (arith, sink_in, is_of, is_some)

pub no_sink_of : (box : Option ℕ) (made : Option Settings) (own : Option ℕ) (calls_made : List links.Call) (received : List Call) (source : ℕ) (entry : Option Sink)
    → EntryIs box made own calls_made received (Some entry) → entry ≡ None → false ≡ (is_some box && is_of source own)
no_sink_of box made own calls_made received source entry is e = grind (arith, is_of, lives_in, is_some)

-- ---- one entry among all

-- the entry at a place that was read
pub entry_read : (past : Histories) (n at : ℕ) (sinks : List (Option Sink)) (entry : Option Sink) → at ≡ n → length sinks ≡ most_sinks → n < most_sinks
    → entry ≡ get_or sinks at entry → EntriesAre past sinks → EntryAt past n (Some entry)
entry_read past n at sinks entry same eight below is are = grind (arith, length, slice_get, slice_get-get_or)

-- the past of the sinks of all other numbers stays
pub record OthersStay (n : ℕ) (old new : Histories) : Type 0 where
  pub boxes : (m : ℕ) → (n == m) ≡ false → new.boxes m ≡ old.boxes m
  pub mades : (m : ℕ) → (n == m) ≡ false → new.mades m ≡ old.mades m
  pub sources : (m : ℕ) → (n == m) ≡ false → new.sources m ≡ old.sources m
  pub lives : (m : ℕ) → (n == m) ≡ false → new.lives m ≡ old.lives m
  pub received : (m : ℕ) → (n == m) ≡ false → new.received m ≡ old.received m

touched : (n m : ℕ) (old new : Histories) (sinks : List (Option Sink)) (entry : Option Sink) → n < length sinks → m < most_sinks
    → OthersStay n old new → EntriesAre old sinks → EntryAt new n (Some entry)
    → (m ≡ n) ⊎ (m ≢ n) → EntryAt new m (slice_get (slice_set sinks n entry) m)
touched n m old new sinks entry inside below others entries here x12 =
    grind (arith, slice_get, slice_set, get_set_here, ne_eqb, get_set_other)

-- the entries where the one of a number is new
pub one_entry : (n at : ℕ) (old new : Histories) (sinks : List (Option Sink)) (entry : Option Sink)
    → at ≡ n → n < most_sinks → length sinks ≡ most_sinks → OthersStay n old new → EntriesAre old sinks → EntryAt new n (Some entry)
    → EntriesAre new (slice_set sinks at entry)
one_entry n at old new sinks entry same within eight others entries here = grind (arith, length, slice_set, touched, cases_eq)

-- ---- no sinks yet

get_replicate : (x : Option Sink) (n k : ℕ) → n < k → slice_get (replicate k x) n ≡ Some x
get_replicate x n zero below = absurd (omega arith)
get_replicate x zero (suc k) below = refl
get_replicate x (suc n) (suc k) below = get_replicate x n k (omega arith)

pub none_made : (sinks : List (Option Sink)) (n k : ℕ) → sinks ≡ replicate k None → n < k → slice_get sinks n ≡ Some None
none_made sinks n k is below = ap (λ s. slice_get s n) is ∙ get_replicate None n k below

-- ---- what comes to the sink of an entry

pub entry_tuned : (box : Option ℕ) (made : Option Settings) (own : Option ℕ) (calls_made : List links.Call) (received : List Call) (source : ℕ)
    (big_sync : BigSync) (sink new : Sink) (beyond : Bool) → (is : SinkIs box made own calls_made received sink) → new.outlet ≡ sink.outlet
    → IsSink (after_tuning source big_sync (histories_of is.how own calls_made received)) new.living
    → beyond ≡ has_beyond big_sync.info.num_bis big_sync.which → beyond ≡ false
    → EntryTunes box made own calls_made received source big_sync (Some new) (Ok tt)
entry_tuned box made own calls_made received source big_sync sink new beyond is outlet lives b within = grind (arith, entry_of, tune)

pub entry_heard : (box : Option ℕ) (made : Option Settings) (own : Option ℕ) (calls_made : List links.Call) (received : List Call)
    (source event bis subevent : ℕ) (octets : List ℕ)
    (sink new : Sink) (from : Option ℕ) (of : Bool) (hearing : Hearing) → (is : SinkIs box made own calls_made received sink) → new.outlet ≡ sink.outlet → from ≡ own
    → of ≡ is_of source from → of ≡ true → hearing ≡ hearing_of received event bis subevent octets
    → IsSink (receiving (hear event bis subevent octets) (histories_of is.how own calls_made received)) new.living
    → EntryHears box made own calls_made received source event bis subevent octets (Some new) (Some hearing)
entry_heard box made own calls_made received source event bis subevent octets sink new from of hearing is outlet f o t answer lives =
    grind (arith, is_of, entry_of, hear)

-- a PDU of another source
pub entry_passed : (box : Option ℕ) (made : Option Settings) (own : Option ℕ) (calls_made : List links.Call) (received : List Call)
    (source event bis subevent : ℕ) (octets : List ℕ)
    (sink : Sink) (from : Option ℕ) (of : Bool) → SinkIs box made own calls_made received sink → from ≡ own → of ≡ is_of source from → of ≡ false
    → EntryHears box made own calls_made received source event bis subevent octets (Some sink) (Some NotOnGroup)
entry_passed box made own calls_made received source event bis subevent octets sink from of is f o t = grind (arith, is_of, entry_of)

-- the PDUs of an event
pub none_hears : (box : Option ℕ) (made : Option Settings) (own : Option ℕ) (calls_made : List links.Call) (received more : List Call) (entry : Option Sink)
    → EntryIs box made own calls_made received (Some entry) → entry ≡ None → EntryIs box made own calls_made more (Some entry)
none_hears box made own calls_made received more entry is none = grind (arith, none_some)

pub event_heard : (box : Option ℕ) (made : Option Settings) (own : Option ℕ) (calls_made : List links.Call) (received : List Call)
    (source event bis : ℕ) (pdus : List (Option (List ℕ))) (sink new : Sink) (from : Option ℕ) (of : Bool)
    → (is : SinkIs box made own calls_made received sink) → new.outlet ≡ sink.outlet → from ≡ own → of ≡ is_of source from → of ≡ true
    → IsSink (hearing_event event bis pdus (histories_of is.how own calls_made received)) new.living
    → EntryIs box made own calls_made (if is_of source own then heard_calls event bis pdus received else received) (Some (Some new))
event_heard box made own calls_made received source event bis pdus sink new from of is outlet f o t lives = grind (arith, is_of, entry_of)

-- of another source
pub event_passed : (box : Option ℕ) (made : Option Settings) (own : Option ℕ) (calls_made : List links.Call) (received : List Call)
    (source event bis : ℕ) (pdus : List (Option (List ℕ))) (sink : Sink) (from : Option ℕ) (of : Bool)
    → SinkIs box made own calls_made received sink → from ≡ own → of ≡ is_of source from → of ≡ false
    → EntryIs box made own calls_made (if is_of source own then heard_calls event bis pdus received else received) (Some (Some sink))
event_passed box made own calls_made received source event bis pdus sink from of is f o t = grind (arith, is_of, entry_of)

-- what it would answer
pub none_answers : (box : Option ℕ) (made : Option Settings) (own : Option ℕ) (calls_made : List links.Call) (received : List Call)
    (source event bis subevent : ℕ) (octets : List ℕ)
    (entry : Option Sink) → EntryIs box made own calls_made received (Some entry) → entry ≡ None
    → None ≡ hearing_where box own received source event bis subevent octets
none_answers box made own calls_made received source event bis subevent octets entry is none = grind (arith, none_lives, is_some)

pub entry_answers : (box : Option ℕ) (made : Option Settings) (own : Option ℕ) (calls_made : List links.Call) (received : List Call)
    (source event bis subevent : ℕ) (octets : List ℕ)
    (sink : Sink) (from : Option ℕ) (of : Bool) (hearing : Hearing) → SinkIs box made own calls_made received sink → from ≡ own
    → of ≡ is_of source from → of ≡ true → hearing ≡ hearing_of received event bis subevent octets
    → Some hearing ≡ hearing_where box own received source event bis subevent octets
entry_answers box made own calls_made received source event bis subevent octets sink from of hearing is f o t answer = grind (arith, is_of)

pub other_answers : (box : Option ℕ) (made : Option Settings) (own : Option ℕ) (calls_made : List links.Call) (received : List Call)
    (source event bis subevent : ℕ) (octets : List ℕ)
    (sink : Sink) (from : Option ℕ) (of : Bool) → SinkIs box made own calls_made received sink → from ≡ own → of ≡ is_of source from → of ≡ false
    → Some NotOnGroup ≡ hearing_where box own received source event bis subevent octets
other_answers box made own calls_made received source event bis subevent octets sink from of is f o t = grind (arith, is_of)

line_ran : (box : Option ℕ) (how : Settings) (own : Option ℕ) (calls_made : List links.Call) (received : List Call) (source : Source)
    (line : Step) (new : Sink) (text told : List ℕ)
    (r : Result (Unit {0}) Stop) → box ≡ Some new.outlet → LineMakes source line (histories_of how own calls_made received) text told new.living r
    → EntryRuns box (Some how) own calls_made received source line (Some new) text told r
line_ran box how own calls_made received source line new text told r here makes = grind (arith, calls_by, entry_of, source_by, received_by)

-- a line runs on the sink
pub entry_ran : (box : Option ℕ) (made : Option Settings) (own : Option ℕ) (calls_made : List links.Call) (received : List Call) (source : Source)
    (step : Step) (sink new : Sink)
    (text told : List ℕ) (r : Result (Unit {0}) Stop) → (is : SinkIs box made own calls_made received sink) → new.outlet ≡ sink.outlet
    → LineMakes source step (histories_of is.how own calls_made received) text told new.living r → EntryRuns box made own calls_made received source step (Some new) text told r
entry_ran box made own calls_made received source this sink new text told r is outlet makes = grind (arith, line_ran)

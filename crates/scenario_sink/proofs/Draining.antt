-- Calls of one kind on a link, for as long as something waits for them.
use Rattle.scenario_sink.proofs.Prelude.{ℕ, zero, suc, ◌≡◌, ◌+◌, ◌<◌, ◌≤◌, Bool, true, false, List, [], ◌∷◌, ◌++◌, drop, length, slice_get, Option, Some, None, Ok, refl, sym, ap, ◌∙◌, append_assoc, subst, arith, concat, length-append, is_none, option_map, reply_of, Settings, Call, is_joined, writes_waiting, drained, repeated, served_out, notified_out, Told, delivered, notices_waiting, reads_waiting, notices_one, writes_one, Lines, drain_lines, if_there, read_line, read_lines, serve_line, serve_lines, snapshot_in, stated, tell_line, tell_lines, Label, reply_line, value_line, LinkedSink, Goes, Stays, Turns, stayed, SinkHistory, IsSink}
use Rattle.group_sink.specs.Calls as sinks
use Rattle.sink_history.specs.Calls as calls
use Rattle.sink_history.proofs.Citable.{reads_one}
use Rattle.scenario_sink.proofs.Leaving.{StaysOff, goes_on, served_off}
use Rattle.scenario_sink.proofs.Histories.{lives_stayed}
use Rattle.scenario_sink.proofs.Printing.{more_put, nothing_put}
use Rattle.scenario_sink.proofs.Queues.{no_more, one_more}
use Rattle.scenario_sink.proofs.Turning.{none_taken, one_taken}

-- ---- a kind of call

-- each such call takes the first that waits and prints its line, synchronizes the sink to no BIG, and lets nobody leave the link
pub record Kind (A : Type 0) (made : Settings) (link : ℕ) : Type 0 where
  pub call : Call
  pub waiting : List Call → List A
  pub line : List Call → Lines
  pub lines : ℕ → List Call → Lines
  pub none : (calls_made : List Call) → lines 0 calls_made ≡ []
  pub more : (count : ℕ) (calls_made : List Call) → lines (suc count) calls_made ≡ lines count calls_made ++ line (repeated count call calls_made)
  pub each : (calls_made : List Call) → waiting (call ∷ calls_made) ≡ drop 1 (waiting calls_made)
  pub off : (calls_made : List Call) → StaysOff made.setup calls_made (call ∷ calls_made)
  pub joined : (calls_made : List Call) → is_joined link (call ∷ calls_made) ≡ is_joined link calls_made

abbrev pub serving : (label : Label) (made : Settings) (link : ℕ) → Kind (List ℕ) made link
serving label made link = record {
  call = calls.served link;
  waiting = writes_waiting link;
  line = serve_line label made link;
  lines = λ count. serve_lines label made link count;
  none = λ calls_made. refl;
  more = λ count calls_made. refl;
  each = writes_one link;
  off = served_off made.setup link;
  joined = λ calls_made. refl;
}

abbrev pub telling : (label : Label) (made : Settings) (link : ℕ) → Kind Told made link
telling label made link = record {
  call = calls.notified link;
  waiting = notices_waiting made.setup made.mtu link;
  line = tell_line label made link;
  lines = λ count. tell_lines label made link count;
  none = λ calls_made. refl;
  more = λ count calls_made. refl;
  each = notices_one made.setup made.mtu link;
  off = λ calls off. off;
  joined = λ calls_made. refl;
}

abbrev pub reading : (label : Label) (made : Settings) (link : ℕ) → Kind ℕ made link
reading label made link = record {
  call = calls.read link;
  waiting = reads_waiting made.setup made.mtu link;
  line = read_line label made link;
  lines = λ count. read_lines label made link count;
  none = λ calls_made. refl;
  more = λ count calls_made. refl;
  each = reads_one made.setup made.mtu link;
  off = λ calls off. off;
  joined = λ calls_made. refl;
}

pub all_off : {A : Type 0} (made : Settings) (link : ℕ) (kind : Kind A made link) (count : ℕ) (calls_made : List Call)
    → StaysOff made.setup calls_made (repeated count kind.call calls_made)
all_off made link kind zero calls_made off = off
all_off made link kind (suc count) calls_made off = kind.off (repeated count kind.call calls_made) (all_off made link kind count calls_made off)

pub all_joined : {A : Type 0} (made : Settings) (link : ℕ) (kind : Kind A made link) (count : ℕ) (calls_made : List Call)
    → is_joined link (repeated count kind.call calls_made) ≡ is_joined link calls_made
all_joined made link kind zero calls_made = refl
all_joined made link kind (suc count) calls_made = kind.joined (repeated count kind.call calls_made) ∙ all_joined made link kind count calls_made

-- ---- one history after another

pub goes_then : (history : SinkHistory) (mid after : List Call) (lines others : Lines) (text between told : List ℕ) (first last : LinkedSink)
    → StaysOff history.made.setup history.calls_made mid → StaysOff history.made.setup mid after → Goes history mid lines text between first
    → Goes (stayed mid history) after others between told last → Goes history after (lines ++ others) text told last
goes_then history mid after lines others text between told first last off more goes then_goes = (
  subst (λ (received : List sinks.Call). IsSink (record (stayed after history) { received = received }) last) (goes_on history.made.setup history.calls_made mid after history.received off more) then_goes.0,
  more_put text between told lines others goes.1 then_goes.1,
)

-- ---- so many of them

pub record Repeats {A : Type 0} (history : SinkHistory) (link : ℕ) (kind : Kind A history.made link) (turns : ℕ) (text told : List ℕ) (living : LinkedSink) : Type 0 where
  pub count : ℕ
  pub turned : turns ≤ count
  pub within : count ≤ length (kind.waiting history.calls_made)
  pub goes : Goes history (repeated count kind.call history.calls_made) (kind.lines count history.calls_made) text told living

pub none_yet : {A : Type 0} (history : SinkHistory) (link : ℕ) (kind : Kind A history.made link) (text : List ℕ) (living : LinkedSink) → IsSink history living → Repeats history link kind 0 text text living
none_yet history link kind text living lives = record {
  count = 0;
  turned = omega arith;
  within = omega arith;
  goes = grind (arith, lives_stayed, nothing_put, concat);
}

some_is : {A : Type 0} (first : Option A) → is_none first ≡ false → (x : A) × (first ≡ Some x)
some_is first is = grind arith

none_is : {A : Type 0} (first : Option A) → is_none first ≡ true → first ≡ None
none_is first is = grind arith

-- what one such call makes of the sink with this history
abbrev pub Each : {A : Type 0} (history : SinkHistory) (link : ℕ) → Kind A history.made link → List ℕ → List ℕ → LinkedSink → LinkedSink → Bool → Type 0
Each history link kind told next old new waited =
    (calls_made : List Call) → IsSink (stayed calls_made history) old → is_joined link calls_made ≡ true
    → Turns (slice_get (kind.waiting calls_made) 0) (Goes (stayed calls_made history) (kind.call ∷ calls_made) (kind.line calls_made) told) (Stays (stayed calls_made history) told) next new (Ok waited)

pub one_again : {A : Type 0} (history : SinkHistory) (link : ℕ) (kind : Kind A history.made link) (turns : ℕ) (text told next : List ℕ) (old new : LinkedSink) (waited : Bool)
    → is_joined link history.calls_made ≡ true → Repeats history link kind turns text told old → waited ≡ true → Each history link kind told next old new waited
    → Repeats history link kind (turns + 1) text next new
one_again history link kind turns text told next old new waited on r is each =
    let calls_made : List Call = repeated r.count kind.call history.calls_made in
    let turn = one_taken (slice_get (kind.waiting calls_made) 0) (Goes (stayed calls_made history) (kind.call ∷ calls_made) (kind.line calls_made) told) (Stays (stayed calls_made history) told) next new waited is
    (each calls_made r.goes.0 (all_joined history.made link kind r.count history.calls_made ∙ on)) in
    let there = some_is (slice_get (kind.waiting calls_made) 0) turn.0 in
    let goes : Goes history (kind.call ∷ calls_made) (kind.lines r.count history.calls_made ++ kind.line calls_made) text next new =
    goes_then history calls_made (kind.call ∷ calls_made) (kind.lines r.count history.calls_made) (kind.line calls_made) text told next old new (all_off history.made link kind r.count history.calls_made) (kind.off calls_made) r.goes turn.1 in
    record {
      count = suc r.count;
      turned = omega (arith, r.turned);
      within = one_more kind.call kind.waiting kind.each r.count history.calls_made there.0 there.1;
      goes = (goes.0, goes.1 ∙ ap (λ (ls : Lines). text ++ concat ls) (sym (kind.more r.count history.calls_made)));
    }

pub all_done : {A : Type 0} (history : SinkHistory) (link : ℕ) (kind : Kind A history.made link) (turns : ℕ) (text told next : List ℕ) (old new : LinkedSink) (waited : Bool)
    → is_joined link history.calls_made ≡ true → Repeats history link kind turns text told old → waited ≡ false → Each history link kind told next old new waited
    → Goes history (repeated (length (kind.waiting history.calls_made)) kind.call history.calls_made) (kind.lines (length (kind.waiting history.calls_made)) history.calls_made) text next new
all_done history link kind turns text told next old new waited on r is each =
    let calls_made : List Call = repeated r.count kind.call history.calls_made in
    let turn = none_taken (slice_get (kind.waiting calls_made) 0) (Goes (stayed calls_made history) (kind.call ∷ calls_made) (kind.line calls_made) told) (Stays (stayed calls_made history) told) next new waited is
    (each calls_made r.goes.0 (all_joined history.made link kind r.count history.calls_made ∙ on)) in
    let all : r.count ≡ length (kind.waiting history.calls_made) =
    no_more kind.call kind.waiting kind.each r.count history.calls_made r.within (none_is (slice_get (kind.waiting calls_made) 0) turn.0) in
    subst (λ n. Goes history (repeated n kind.call history.calls_made) (kind.lines n history.calls_made) text next new) all (turn.1.0, turn.1.1 ∙ r.goes.1)

-- one of them waited still, and so of the history before them all
pub some_waits : {A : Type 0} (history : SinkHistory) (link : ℕ) (kind : Kind A history.made link) (turns : ℕ) (text told : List ℕ) (old : LinkedSink)
    → is_joined link history.calls_made ≡ true → Repeats history link kind turns text told old
    → ((calls_made : List Call) → IsSink (stayed calls_made history) old → is_joined link calls_made ≡ true → is_none (slice_get (kind.waiting calls_made) 0) ≡ false) → 0 < length (kind.waiting history.calls_made)
some_waits history link kind turns text told old on r wants =
    let calls_made : List Call = repeated r.count kind.call history.calls_made in
    let there = some_is (slice_get (kind.waiting calls_made) 0) (wants calls_made r.goes.0 (all_joined history.made link kind r.count history.calls_made ∙ on)) in
    omega (arith, one_more kind.call kind.waiting kind.each r.count history.calls_made there.0 there.1)

-- ---- lines of what waits

line_there : {A B : Type 0} (line : B → List ℕ) (f : A → B) (all : List A) → 0 < length all → 0 < length (if_there line (option_map f (slice_get all 0)))
line_there line f [] some = absurd (omega (arith, some))
line_there line f (x ∷ all) some = omega arith

lines_there : (lines line : ℕ → Lines) → ((n : ℕ) → lines (suc n) ≡ lines n ++ line n) → 0 < length (line 0) → (n : ℕ) → 0 < n → 0 < length (lines n)
lines_there lines line each first zero some = absurd (omega (arith, some))
lines_there lines line each first (suc zero) some = omega (arith, ap length (each 0), length-append (lines 0) (line 0), first)
lines_there lines line each first (suc (suc n)) some =
    omega (arith, ap length (each (suc n)), length-append (lines (suc n)) (line (suc n)), lines_there lines line each first (suc n) (omega arith))

pub serves_some : (label : Label) (made : Settings) (link : ℕ) (calls_made : List Call) → 0 < length (writes_waiting link calls_made)
    → 0 < length (serve_lines label made link (length (writes_waiting link calls_made)) calls_made)
serves_some label made link calls_made some =
    lines_there (λ n. serve_lines label made link n calls_made) (λ n. serve_line label made link (repeated n (calls.served link) calls_made)) (λ n. refl)
    (line_there (reply_line label) (reply_of (snapshot_in made calls_made)) (writes_waiting link calls_made) some) (length (writes_waiting link calls_made)) some

pub tells_some : (label : Label) (made : Settings) (link : ℕ) (calls_made : List Call)
    → 0 < length (notices_waiting made.setup made.mtu link calls_made)
    → 0 < length (tell_lines label made link (length (notices_waiting made.setup made.mtu link calls_made)) calls_made)
tells_some label made link calls_made some =
    lines_there (λ n. tell_lines label made link n calls_made) (λ n. tell_line label made link (repeated n (calls.notified link) calls_made)) (λ n. refl)
    (line_there (value_line label.notice label.numbers) (delivered made.mtu) (notices_waiting made.setup made.mtu link calls_made) some)
    (length (notices_waiting made.setup made.mtu link calls_made)) some

pub reads_some : (label : Label) (made : Settings) (link : ℕ) (calls_made : List Call) → 0 < length (reads_waiting made.setup made.mtu link calls_made)
    → 0 < length (read_lines label made link (length (reads_waiting made.setup made.mtu link calls_made)) calls_made)
reads_some label made link calls_made some =
    lines_there (λ n. read_lines label made link n calls_made) (λ n. read_line label made link (repeated n (calls.read link) calls_made)) (λ n. refl)
    (line_there (value_line label.read label.numbers) (stated made calls_made) (reads_waiting made.setup made.mtu link calls_made) some)
    (length (reads_waiting made.setup made.mtu link calls_made)) some

-- a drain has each of these three
pub drain_length : (served told was_read : Lines) → length (served ++ told ++ was_read) ≡ length served + length told + length was_read
drain_length served told was_read = omega (arith, length-append (served ++ told) was_read, length-append served told)

-- ---- a drain

pub drain_goes : (history : SinkHistory) (link : ℕ) (label : Label) (text first mid last : List ℕ) (one two three : LinkedSink)
    → let made : Settings = history.made in let served : List Call = served_out link history.calls_made in
    let told : List Call = notified_out made.setup made.mtu link served in
    Goes history served (serve_lines label made link (length (writes_waiting link history.calls_made)) history.calls_made) text first one
    → Goes (stayed served history) told (tell_lines label made link (length (notices_waiting made.setup made.mtu link served)) served) first mid two
    → Goes (stayed told (stayed served history)) (drained made.setup made.mtu link history.calls_made)
    (read_lines label made link (length (reads_waiting made.setup made.mtu link told)) told) mid last three
    → Goes history (drained made.setup made.mtu link history.calls_made) (drain_lines label made link history.calls_made) text last three
drain_goes history link label text first mid last one two three serves tells reads =
    let made : Settings = history.made in
    let calls_made : List Call = history.calls_made in
    let served : List Call = served_out link calls_made in
    let told : List Call = notified_out made.setup made.mtu link served in
    let all : List Call = drained made.setup made.mtu link calls_made in
    let serve_them : Lines = serve_lines label made link (length (writes_waiting link calls_made)) calls_made in
    let tell_them : Lines = tell_lines label made link (length (notices_waiting made.setup made.mtu link served)) served in
    let read_them : Lines = read_lines label made link (length (reads_waiting made.setup made.mtu link told)) told in
    let off = all_off made link (serving label made link) (length (writes_waiting link calls_made)) calls_made in
    let off_told = all_off made link (telling label made link) (length (notices_waiting made.setup made.mtu link served)) served in
    let off_read = all_off made link (reading label made link) (length (reads_waiting made.setup made.mtu link told)) told in
    subst (λ lines. Goes history all lines text last three) (sym (append_assoc serve_them tell_them read_them)) (search (goes_then, stayed))

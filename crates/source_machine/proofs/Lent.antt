-- The PDUs of an event of a stream as they are lent.
use Rattle.source_machine.proofs.Prelude.{ℕ, zero, suc, ◌≡◌, ◌<◌, ◌≤◌, ◌+◌, ◌-◌, ◌*◌, ◌/◌, ◌%◌, ◌^◌, Option, Some, None, List, [], length, get_or, set, get_or-set_other, get_or-set_same, cases_lt, map, refl, ap, sym, ◌∙◌, arith, get_or-map-range_with_len, length-map-range_with_len, mod_below, slice_get-get_or, slice_get_past, unwrap_or, All, range_with_len, slice_get, option_and_then, map_same, BigInfo, group_count, horizon_of, ahead_of, AreAirs, Air, pdu_of, Call, next_of, air_fault, IsChecked, Source, StandsFor, Stream, IsSource, IsLaid, sent_of, slice_index, IsSome, Keeps}
use Rattle.source_machine.specs.State.Lent.{AheadsAre, AllLent, PlacesAre, lent_at, lent_pdus}
use Rattle.source_machine.proofs.HeardEvents.{heard}
use Rattle.source_machine.proofs.Payloads.{ahead_within, sent_kept}
use Rattle.source_machine.proofs.Sending.{gathered_at, gathered_count}

-- the next entry of a table of the values of a function
pub entry_set : (f : ℕ → ℕ) (xs : List ℕ) (n at value : ℕ) → n < length xs → at ≡ n → value ≡ f n
    → ((s : ℕ) → s < n → get_or xs s 0 ≡ f s) → (s : ℕ) → s < n + 1 → get_or (set xs at value) s 0 ≡ f s
entry_set f xs n at value long is_at is_value done s below = grind (arith, cases_lt, get_or-set_other, get_or-set_same)

-- ---- what is lent is read

pub lent_count : (laid : List (List (List ℕ))) (place : ℕ) (aheads places : List ℕ) (count : ℕ) → length (lent_pdus laid place aheads places count) ≡ count
lent_count laid place aheads places count = length-map-range_with_len (λ s. unwrap_or (lent_at laid place aheads places s) []) 0 count

-- the event of the payload of a subevent is laid
pub event_laid : (laid : List (List (List ℕ))) (place : ℕ) (aheads places : List ℕ) (count s : ℕ) → AllLent laid place aheads places count → s < count
    → place + slice_index aheads s < length laid
event_laid laid place aheads places count s all below = grind (arith, all.each s below, slice_get_past)

-- and it has the PDU
pub pdu_laid : (laid : List (List (List ℕ))) (place : ℕ) (aheads places : List ℕ) (count s : ℕ) (pdus : List (List ℕ)) → AllLent laid place aheads places count → s < count
    → slice_get laid (place + slice_index aheads s) ≡ Some pdus → slice_index places s < length pdus
pdu_laid laid place aheads places count s pdus all below is = grind (arith, all.each s below, slice_get_past)

pub lent_is : (laid : List (List (List ℕ))) (place : ℕ) (aheads places : List ℕ) (count s : ℕ) (pdus : List (List ℕ)) (pdu : List ℕ) → s < count
    → slice_get laid (place + slice_index aheads s) ≡ Some pdus → slice_get pdus (slice_index places s) ≡ Some pdu
    → slice_get (lent_pdus laid place aheads places count) s ≡ Some pdu
lent_is laid place aheads places count s pdus pdu below event is =
    let f : ℕ → List ℕ = λ s. unwrap_or (lent_at laid place aheads places s) [] in
    slice_get-get_or (lent_pdus laid place aheads places count) s [] (omega (arith, lent_count laid place aheads places count))
    ∙ ap (λ pdu. Some pdu) (get_or-map-range_with_len f 0 count s s [] below (omega arith) ∙ rw (event, is) refl)

-- ---- a stream lends what it sent in its last event

some_of : (laid : List (List (List ℕ))) (i k bn : ℕ) → All (λ pdus. length pdus ≡ bn) laid → i < length laid → k < bn
    → IsSome (option_and_then (λ pdus. slice_get pdus k) (slice_get laid i))
some_of laid i k bn whole within below =
    let long : length (get_or laid i []) ≡ bn = whole i [] within in
    rw (slice_get-get_or laid i [] within, slice_get-get_or (get_or laid i []) k [] (omega (arith, long))) refl

pub lent_sent : (info : BigInfo) (stream : Stream) (place : ℕ) (aheads places : List ℕ) (s : ℕ) → IsLaid info 0 stream → AheadsAre info aheads → PlacesAre info places
    → place + (horizon_of info + 1) ≡ length stream.laid → s < info.nse → lent_at stream.laid place aheads places s ≡ sent_of stream 0 s
lent_sent info stream place aheads places s is aheads_are places_are at below =
    let index : place + ahead_of info (s / info.bn) ≡ length stream.laid + ahead_of info (s / info.bn) - (horizon_of info + 1 + 0) = omega (arith, at) in
    rw (sent_kept info stream 0 s is.group, aheads_are s below, places_are s below, index) refl

pub sent_some : (info : BigInfo) (stream : Stream) (capacity s : ℕ) → Keeps info capacity stream.laid → IsLaid info 0 stream → 1 ≤ info.bn
    → group_count info * info.bn ≡ info.nse → s < info.nse → IsSome (sent_of stream 0 s)
sent_some info stream capacity s keeps is some whole below =
    let near = ahead_within info s some whole below in
    rw (sent_kept info stream 0 s is.group)
    (some_of stream.laid (length stream.laid + ahead_of info (s / info.bn) - (horizon_of info + 1 + 0)) (s % info.bn) info.bn keeps.whole
    (omega (arith, near, is.kept)) (mod_below s info.bn (omega (arith, some))))

of_some : {A : Type 0} (o : Option A) (none : A) → IsSome o → Some (unwrap_or o none) ≡ o
of_some o none is = grind arith

-- what is made of values over a range
all_some : {A : Type 0} (f g : ℕ → Option A) (none : A) (start n : ℕ) → ((i : ℕ) → start ≤ i → i < start + n → IsSome (f i) × (f i ≡ g i))
    → map Some (map (λ i. unwrap_or (f i) none) (range_with_len start n)) ≡ map g (range_with_len start n)
all_some f g none start zero each = refl
all_some f g none start (suc n) each =
    grind (arith, each start (omega arith) (omega arith), of_some (f start) none, all_some f g none (start + 1) n (λ i least below. each i (omega arith) (omega arith)))

pub all_lent : (info : BigInfo) (stream : Stream) (capacity place : ℕ) (aheads places : List ℕ) → Keeps info capacity stream.laid → IsLaid info 0 stream → 1 ≤ info.bn
    → group_count info * info.bn ≡ info.nse → AheadsAre info aheads → PlacesAre info places → place + (horizon_of info + 1) ≡ length stream.laid
    → place < 2 ^ 32 → info.nse ≤ 31 → AllLent stream.laid place aheads places info.nse
all_lent info stream capacity place aheads places keeps is some whole aheads_are places_are at near few = record {
  near = near;
  few = few;
  each = λ s below. rw (lent_sent info stream place aheads places s is aheads_are places_are at below) (sent_some info stream capacity s keeps is some whole below);
}

pub lends : (info : BigInfo) (stream : Stream) (capacity place : ℕ) (aheads places : List ℕ) → Keeps info capacity stream.laid → IsLaid info 0 stream → 1 ≤ info.bn
    → group_count info * info.bn ≡ info.nse → AheadsAre info aheads → PlacesAre info places → place + (horizon_of info + 1) ≡ length stream.laid
    → map Some (lent_pdus stream.laid place aheads places info.nse) ≡ map (sent_of stream 0) (range_with_len 0 info.nse)
lends info stream capacity place aheads places keeps is some whole aheads_are places_are at =
    all_some (lent_at stream.laid place aheads places) (sent_of stream 0) [] 0 info.nse (λ s least below.
    let same = lent_sent info stream place aheads places s is aheads_are places_are at (omega (arith, below)) in
    (rw same (sent_some info stream capacity s keeps is some whole (omega (arith, below))), same))

-- ---- and these are the PDUs of the event

sends_here : (source : Source) (calls : List Call) (airs : List Air) (bis s : ℕ) (stream : Stream) (sent : List (List ℕ)) → IsSource source → IsChecked source.setup.info
    → StandsFor calls source → AreAirs source.setup calls airs → 1 ≤ bis → bis ≤ source.setup.info.num_bis → 0 < source.next - source.setup.first
    → stream ≡ get_or source.streams (bis - 1) stream → map Some sent ≡ map (sent_of stream 0) (range_with_len 0 source.setup.info.nse) → s < source.setup.info.nse
    → (air_fault source.setup calls 0 bis s ≡ None) × (pdu_of source.setup airs (next_of source.setup calls - 1) bis s ≡ sent_of stream 0 s)
sends_here source calls airs bis s stream sent is checked stands are least within some at lent below =
    let there : sent_of stream 0 s ≡ Some (get_or sent s []) = sym (gathered_at (sent_of stream 0) sent source.setup.info.nse s lent below)
    ∙ slice_get-get_or sent s [] (omega (arith, gathered_count (sent_of stream 0) sent source.setup.info.nse lent)) in
    let last : next_of source.setup calls - 1 - 0 ≡ next_of source.setup calls - 1 = omega arith in
    let both = heard source calls airs 0 bis s stream (get_or sent s []) is checked stands are least within below some (omega arith) at there in
    (both.0, ap (λ e. pdu_of source.setup airs e bis s) (sym last) ∙ both.1 ∙ sym there)

pub sends_on : (source : Source) (calls : List Call) (airs : List Air) (bis : ℕ) (stream : Stream) (sent : List (List ℕ)) → IsSource source → IsChecked source.setup.info
    → StandsFor calls source → AreAirs source.setup calls airs → 1 ≤ bis → bis ≤ source.setup.info.num_bis → 0 < source.next - source.setup.first
    → stream ≡ get_or source.streams (bis - 1) stream → map Some sent ≡ map (sent_of stream 0) (range_with_len 0 source.setup.info.nse)
    → map Some sent ≡ map (pdu_of source.setup airs (next_of source.setup calls - 1) bis) (range_with_len 0 source.setup.info.nse)
sends_on source calls airs bis stream sent is checked stands are least within some at lent =
    lent ∙ sym (map_same (pdu_of source.setup airs (next_of source.setup calls - 1) bis) (sent_of stream 0) 0 source.setup.info.nse
    (λ s from below. (sends_here source calls airs bis s stream sent is checked stands are least within some at lent (omega (arith, below))).1))

-- The PDUs of an event, gathered from the streams.
use Rattle.source_machine.proofs.Prelude.{ℕ, ◌≡◌, ◌<◌, ◌≤◌, ◌+◌, ◌-◌, ◌*◌, ◌/◌, ◌%◌, Option, Some, None, List, [], ◌∷◌, ◌++◌, length, get_or, map, arith, ◌∙◌, ap, sym, subst, length-map, map-append, get_or-map-range_with_len, length-map-range_with_len, div-mul-add, mod-mul-add, mul-add-lt, none-some, same_Some, slice_get-get_or, slice_get-map, range_with_len, slice_get, option_and_then, option_map, BigInfo, group_count, map_append, Sends, airs_of, pdu_of, Setup, Call, events, next_of, Stream, StreamIs, StreamsAre, sent_at, sent_of, Unframed}
use Rattle.source_machine.proofs.Payloads.{ahead_within, sent_is}

unwrapped : {A : Type 0} (item want : Option A) → option_map Some item ≡ Some want → item ≡ want
unwrapped item want is = grind (arith, none-some, same_Some)

-- one more item of a list that is gathered by place
pub one_more : {A : Type 0} (f : ℕ → Option A) (items : List A) (item : A) (n : ℕ) → map Some items ≡ map f (range_with_len 0 n)
    → f n ≡ Some item → map Some (items ++ item ∷ []) ≡ map f (range_with_len 0 (n + 1))
one_more f items item n before is = grind (arith, map-append, map, range_with_len, map_append)

pub gathered_at : {A : Type 0} (f : ℕ → Option A) (items : List A) (n i : ℕ) → map Some items ≡ map f (range_with_len 0 n) → i < n → slice_get items i ≡ f i
gathered_at f items n i is below =
    let long : length (map f (range_with_len 0 n)) ≡ n = length-map-range_with_len f 0 n in
    unwrapped (slice_get items i) (f i) (sym (slice_get-map Some items i) ∙ ap (λ xs. slice_get xs i) is
    ∙ slice_get-get_or (map f (range_with_len 0 n)) i None (omega arith)
    ∙ ap Some (get_or-map-range_with_len f 0 n i i None (omega arith) (omega arith)))

pub gathered_count : {A : Type 0} (f : ℕ → Option A) (items : List A) (n : ℕ) → map Some items ≡ map f (range_with_len 0 n) → length items ≡ n
gathered_count f items n is = sym (length-map items Some) ∙ ap length is ∙ length-map-range_with_len f 0 n

nothing_of : Setup → Stream
nothing_of setup = record { bis = 0; sender = Unframed (record { info = setup.info; waiting = [] }); laid = [] }

-- what is gathered from streams that performed an event is what the event sends
pub event_sends : (setup : Setup) (calls : List Call) (streams : List Stream) (pdus : List (List ℕ)) → 1 ≤ setup.info.bn
    → group_count setup.info * setup.info.bn ≡ setup.info.nse → 0 < events calls
    → length streams ≡ setup.info.num_bis → StreamsAre setup calls streams
    → map Some pdus ≡ map (sent_at setup.info streams) (range_with_len 0 (setup.info.num_bis * setup.info.nse))
    → Sends setup (airs_of setup calls) (next_of setup calls - 1) pdus
event_sends setup calls streams pdus some whole performed all are gathered =
    let info = setup.info in
    let count : length pdus ≡ info.num_bis * info.nse = gathered_count (sent_at info streams) pdus (info.num_bis * info.nse) gathered in
    record {
      count = count;
      each = λ bis subevent least within below.
          let none : Stream = nothing_of setup in
          let own : Stream = get_or streams (bis - 1) none in
          let stands : StreamIs setup calls bis own = subst (λ b. StreamIs setup calls b own) (omega (arith, least)) (are (bis - 1) none (omega arith)) in
          let place : ℕ = (bis - 1) * info.nse + subevent in
          let inside : place < info.num_bis * info.nse = omega (arith, mul-add-lt (bis - 1) info.nse subevent info.num_bis (omega arith) below) in
          let stream : slice_get streams (bis - 1) ≡ Some own = slice_get-get_or streams (bis - 1) none (omega arith) in
          let sent : slice_get pdus place ≡ sent_of own 0 subevent = grind (arith, gathered_at, sent_at, option_and_then, sent_of, slice_get, div-mul-add, mod-mul-add) in
          let last : next_of setup calls - 1 - 0 ≡ next_of setup calls - 1 = omega arith in
          let there : slice_get pdus place ≡ Some (get_or pdus place []) = slice_get-get_or pdus place [] (omega arith) in
          there ∙ sym (sent_is setup calls 0 bis subevent own (get_or pdus place []) some least within performed (omega arith)
          (ahead_within info subevent some whole below) stands (sym sent ∙ there))
          ∙ ap (λ e. pdu_of setup (airs_of setup calls) e bis subevent) last;
    }

-- a place of the list of an event, by the stream that it is of and the subevent
pub sent_here : (info : BigInfo) (streams : List Stream) (place nse index : ℕ) (stream : Stream) (octets pdu : List ℕ) → nse ≡ info.nse → index ≡ place / nse
    → index < length streams → stream ≡ get_or streams index stream → sent_of stream 0 (place % nse) ≡ Some octets → pdu ≡ octets
    → sent_at info streams place ≡ Some pdu
sent_here info streams place nse index stream octets pdu nse_is index_is within is sent same =
    grind (arith, slice_get, slice_get-get_or, option_and_then, sent_of)

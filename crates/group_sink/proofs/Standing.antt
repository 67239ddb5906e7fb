-- A sink that stands for its calls stands for them and one more.
use Rattle.group_sink.proofs.Prelude.{ℕ, zero, suc, length, get_or, sym, subst, heard_where, heard_first, heard_calls, hear_where, hear_first, hear_all, all_heard_at, hear_all_on, ◌≡◌, ◌≢◌, ◌-◌, ◌≤◌, Bool, true, false, cond, eqb, leb, List, [], ◌∷◌, ◌++◌, map, slice_get, slice_set, Option, Some, None, option_map, refl, ap, ◌∙◌, arith, flat_map, cond-true, cond-false, eq-eqb, ne_eqb, get_or-map-range_with_len, same_Some, Bounds, Handed, Stay, opened, Call, tune, hear, tick, place, BigSync, units_by, units_on, handed_by, handed_at, closed, fresh, owed_of, receiver_after, OnGroup, StandsFor, place_in, places_of, stream_after, on_after, fresh_on, answer_at, answer_on, hear_at, heard_at, hear_on, place_on, owed_by, owed_on, tick_at, tick_on, is_in, number_of, stay_on, stream_calls, streams_of, with_hear, with_tick, Receiver, BigInfo, hearing_on, hearing_at, hearing_of}
use Rattle.std.proofs.lemmas.List.Folds.{flat_map-map}
use Rattle.isoal_base.specs.declared.hearing.Hearing.TheVariants as hearings
use Rattle.isoal_base.specs.Stays as stays
use Rattle.group_sink.proofs.Places.{stream_at, stream_set, streams_same}
use Rattle.group_sink.proofs.Receivers.{answer_is, open_is, owed_is, receiver_close, receiver_hear, receiver_new}

map_all : {X : Type 0} (f g : ℕ → X) (xs : List ℕ) → ((x : ℕ) → f x ≡ g x) → map f xs ≡ map g xs
map_all f g [] same = refl
map_all f g (x ∷ xs) same = ap (λ y. y ∷ map f xs) (same x) ∙ ap (λ ys. g x ∷ ys) (map_all f g xs same)

-- the sink is synchronized to a BIG
pub fresh_stands : (calls : List Call) (big_sync : BigSync) → StandsFor (tune big_sync ∷ calls) (Some (fresh_on big_sync))
fresh_stands calls big_sync = record {
  place_is = ap (λ streams. Some (record { info = big_sync.info; places = places_of big_sync.which; streams = streams }))
      (map_all (λ bis. fresh (stay_on big_sync bis)) (stream_after big_sync (tune big_sync ∷ calls)) (streams_of big_sync.which)
      (λ bis. receiver_new (stay_on big_sync bis)));
}

-- the receiver of a stream, where it is taken
abbrev taken_after : BigSync → List Call → ℕ → Option Receiver
taken_after big_sync calls bis = cond (is_in big_sync.which bis) (Some (stream_after big_sync calls bis)) None

place_is : (big_sync : BigSync) (calls : List Call) (bis : ℕ) → 1 ≤ bis → bis ≤ 31 → place_on bis (on_after calls big_sync) ≡ place_in big_sync.which bis
place_is big_sync calls bis least greatest =
    get_or-map-range_with_len (place_in big_sync.which) 1 31 (bis - 1) bis 0 (omega arith) (omega arith)

stream_is : (big_sync : BigSync) (calls : List Call) (bis : ℕ) → 1 ≤ bis → bis ≤ 31
    → slice_get (on_after calls big_sync).streams (place_on bis (on_after calls big_sync)) ≡ taken_after big_sync calls bis
stream_is big_sync calls bis least greatest =
    grind (arith, place_is big_sync calls bis least greatest, stream_at (stream_after big_sync calls) big_sync.which bis least greatest)

answer_cases : (taken : Bool) (stay : Stay) (calls : List stays.Call) (number : Option ℕ) (octets : List ℕ)
    → answer_at number octets (cond taken (Some (receiver_after stay calls)) None) ≡ cond taken (hearing_on stay calls number octets) hearings.NotTaken
answer_cases taken stay calls number octets = grind (arith, answer_is)

answer_after : (big_sync : BigSync) (calls : List Call) (event bis subevent : ℕ) (octets : List ℕ) → 1 ≤ bis → bis ≤ 31
    → answer_on event bis subevent octets (on_after calls big_sync) ≡ hearing_at (Some big_sync) calls event bis subevent octets
answer_after big_sync calls event bis subevent octets least greatest =
    ap (answer_at (number_of big_sync.info event subevent) octets) (stream_is big_sync calls bis least greatest)
    ∙ answer_cases (is_in big_sync.which bis) (stay_on big_sync bis) (stream_calls (stay_on big_sync bis) calls) (number_of big_sync.info event subevent) octets

-- a PDU changes the receiver of its stream, where it is taken, and no other
hear_cases : (stay : Stay) (calls : List stays.Call) (number : Option ℕ) (octets : List ℕ) → Bounds stay.info
    → hear_at number octets (receiver_after stay calls) ≡ receiver_after stay (with_hear number octets calls)
hear_cases stay calls number octets bounds = grind (arith, receiver_hear)

hear_own : (big_sync : BigSync) (calls : List Call) (event bis subevent : ℕ) (octets : List ℕ) → Bounds big_sync.info
    → hear_at (number_of big_sync.info event subevent) octets (stream_after big_sync calls bis) ≡ stream_after big_sync (hear event bis subevent octets ∷ calls) bis
hear_own big_sync calls event bis subevent octets bounds =
    grind (
      arith,
      stream_calls (stay_on big_sync bis) calls,
      hear_cases (stay_on big_sync bis) (stream_calls (stay_on big_sync bis) calls) (number_of big_sync.info event subevent) octets bounds,
      cond-true (eqb bis bis) (with_hear (number_of big_sync.info event subevent) octets (stream_calls (stay_on big_sync bis) calls)) (stream_calls (stay_on big_sync bis) calls) (eq-eqb bis bis refl),
    )

hear_other : (big_sync : BigSync) (calls : List Call) (event bis subevent : ℕ) (octets : List ℕ) (c : ℕ) → c ≢ bis
    → stream_after big_sync calls c ≡ stream_after big_sync (hear event bis subevent octets ∷ calls) c
hear_other big_sync calls event bis subevent octets c apart =
    grind (arith, stream_calls, stay_on, receiver_after, cond-false, eqb, with_hear, number_of, ne_eqb)

heard_cases : (taken : Bool) (number : Option ℕ) (octets : List ℕ) (place : ℕ) (receiver now : Receiver) (streams after : List Receiver)
    → hear_at number octets receiver ≡ now → (taken ≡ true → slice_set streams place now ≡ after) → (taken ≡ false → streams ≡ after)
    → heard_at number octets place (cond taken (Some receiver) None) streams ≡ after
heard_cases taken number octets place receiver now streams after is written kept = grind (arith, slice_set, place)

hear_after : (big_sync : BigSync) (calls : List Call) (event bis subevent : ℕ) (octets : List ℕ) → 1 ≤ bis → bis ≤ 31 → Bounds big_sync.info
    → hear_on event bis subevent octets (on_after calls big_sync) ≡ on_after (hear event bis subevent octets ∷ calls) big_sync
hear_after big_sync calls event bis subevent octets least greatest bounds =
    let now : List Call = hear event bis subevent octets ∷ calls in
    let number : Option ℕ = number_of big_sync.info event subevent in
    let on : OnGroup = on_after calls big_sync in
    ap (λ streams. record { info = big_sync.info; places = places_of big_sync.which; streams = streams })
    (ap (λ found. heard_at number octets (place_on bis on) found on.streams) (stream_is big_sync calls bis least greatest)
    ∙ heard_cases (is_in big_sync.which bis) number octets (place_on bis on) (stream_after big_sync calls bis) (stream_after big_sync now bis)
    on.streams (map (stream_after big_sync now) (streams_of big_sync.which)) (hear_own big_sync calls event bis subevent octets bounds)
    (λ taken. ap (λ n. slice_set on.streams n (stream_after big_sync now bis)) (place_is big_sync calls bis least greatest)
    ∙ stream_set (stream_after big_sync calls) (stream_after big_sync now) big_sync.which bis least greatest taken
    (hear_other big_sync calls event bis subevent octets)) (grind (arith, streams_same, stream_after, hear_other)))

-- what the PDUs of an event make of them
where_own : (big_sync : BigSync) (calls : List Call) (event bis subevent : ℕ) (pdu : Option (List ℕ)) → Bounds big_sync.info
    → hear_where (number_of big_sync.info event subevent) pdu (stream_after big_sync calls bis) ≡ stream_after big_sync (heard_where event bis subevent pdu calls) bis
where_own big_sync calls event bis subevent None bounds = refl
where_own big_sync calls event bis subevent (Some octets) bounds = hear_own big_sync calls event bis subevent octets bounds

first_own : (big_sync : BigSync) (calls : List Call) (event bis : ℕ) (pdus : List (Option (List ℕ))) (count : ℕ) → Bounds big_sync.info
    → hear_first big_sync.info event pdus count (stream_after big_sync calls bis) ≡ stream_after big_sync (heard_first event bis pdus count calls) bis
first_own big_sync calls event bis pdus zero bounds = refl
first_own big_sync calls event bis pdus (suc s) bounds =
    ap (hear_where (number_of big_sync.info event s) (get_or pdus s None)) (first_own big_sync calls event bis pdus s bounds)
    ∙ where_own big_sync (heard_first event bis pdus s calls) event bis s (get_or pdus s None) bounds

where_other : (big_sync : BigSync) (calls : List Call) (event bis subevent : ℕ) (pdu : Option (List ℕ)) (c : ℕ) → c ≢ bis
    → stream_after big_sync calls c ≡ stream_after big_sync (heard_where event bis subevent pdu calls) c
where_other big_sync calls event bis subevent None c apart = refl
where_other big_sync calls event bis subevent (Some octets) c apart = hear_other big_sync calls event bis subevent octets c apart

first_other : (big_sync : BigSync) (calls : List Call) (event bis : ℕ) (pdus : List (Option (List ℕ))) (count c : ℕ) → c ≢ bis
    → stream_after big_sync calls c ≡ stream_after big_sync (heard_first event bis pdus count calls) c
first_other big_sync calls event bis pdus zero c apart = refl
first_other big_sync calls event bis pdus (suc s) c apart =
    first_other big_sync calls event bis pdus s c apart
    ∙ where_other big_sync (heard_first event bis pdus s calls) event bis s (get_or pdus s None) c apart

all_heard_cases : (taken : Bool) (info : BigInfo) (event : ℕ) (pdus : List (Option (List ℕ))) (place : ℕ) (receiver now : Receiver) (streams after : List Receiver)
    → hear_all info event pdus receiver ≡ now → (taken ≡ true → slice_set streams place now ≡ after) → (taken ≡ false → streams ≡ after)
    → all_heard_at info event pdus place (cond taken (Some receiver) None) streams ≡ after
all_heard_cases true info event pdus place receiver now streams after is written kept = ap (slice_set streams place) is ∙ written refl
all_heard_cases false info event pdus place receiver now streams after is written kept = kept refl

event_after : (big_sync : BigSync) (calls : List Call) (event bis : ℕ) (pdus : List (Option (List ℕ))) → 1 ≤ bis → bis ≤ 31 → Bounds big_sync.info
    → hear_all_on event bis pdus (on_after calls big_sync) ≡ on_after (heard_calls event bis pdus calls) big_sync
event_after big_sync calls event bis pdus least greatest bounds =
    let now : List Call = heard_calls event bis pdus calls in
    let on : OnGroup = on_after calls big_sync in
    ap (λ streams. record { info = big_sync.info; places = places_of big_sync.which; streams = streams })
    (ap (λ found. all_heard_at big_sync.info event pdus (place_on bis on) found on.streams) (stream_is big_sync calls bis least greatest)
    ∙ all_heard_cases (is_in big_sync.which bis) big_sync.info event pdus (place_on bis on) (stream_after big_sync calls bis) (stream_after big_sync now bis)
    on.streams (map (stream_after big_sync now) (streams_of big_sync.which)) (first_own big_sync calls event bis pdus (length pdus) bounds)
    (λ taken. ap (λ n. slice_set on.streams n (stream_after big_sync now bis)) (place_is big_sync calls bis least greatest)
    ∙ stream_set (stream_after big_sync calls) (stream_after big_sync now) big_sync.which bis least greatest taken
    (first_other big_sync calls event bis pdus (length pdus)))
    (λ free. streams_same (stream_after big_sync calls) (stream_after big_sync now) big_sync.which bis free
    (first_other big_sync calls event bis pdus (length pdus))))

tick_one : (event : ℕ) (stay : Stay) (calls : List stays.Call) → Bounds stay.info
    → tick_at event (receiver_after stay calls) ≡ receiver_after stay (with_tick stay event calls)
tick_one event stay calls bounds = grind (arith, cond, leb, closed, receiver_after, open_is, receiver_close, opened)

map_twice : {A B : Type 0} (f : ℕ → A) (g : A → B) (xs : List ℕ) → map g (map f xs) ≡ map (λ x. g (f x)) xs
map_twice f g [] = refl
map_twice f g (x ∷ xs) = ap (λ ys. g (f x) ∷ ys) (map_twice f g xs)

tick_after : (big_sync : BigSync) (calls : List Call) (event : ℕ) → Bounds big_sync.info
    → tick_on event (on_after calls big_sync) ≡ on_after (tick event ∷ calls) big_sync
tick_after big_sync calls event bounds =
    ap (λ streams. record { info = big_sync.info; places = places_of big_sync.which; streams = streams })
    (map_twice (stream_after big_sync calls) (tick_at event) (streams_of big_sync.which)
    ∙ map_all (λ bis. tick_at event (stream_after big_sync calls bis)) (stream_after big_sync (tick event ∷ calls)) (streams_of big_sync.which)
    (λ bis. tick_one event (stay_on big_sync bis) (stream_calls (stay_on big_sync bis) calls) bounds))

flat_map_same : (f g : ℕ → List Handed) (xs : List ℕ) → ((x : ℕ) → f x ≡ g x) → flat_map f xs ≡ flat_map g xs
flat_map_same f g [] same = refl
flat_map_same f g (x ∷ xs) same = ap (λ ys. ys ++ flat_map f xs) (same x) ∙ ap (λ ys. g x ++ ys) (flat_map_same f g xs same)

owed_one : (event : ℕ) (stay : Stay) (calls : List stays.Call) → Bounds stay.info
    → owed_by event (receiver_after stay calls) ≡ units_by event stay calls
owed_one event stay calls bounds = grind (arith, cond, leb, owed_of, receiver_after, open_is, opened, owed_is)

owed_after : (big_sync : BigSync) (calls : List Call) (event : ℕ) → Bounds big_sync.info
    → owed_on event (on_after calls big_sync) ≡ handed_by event calls (Some big_sync)
owed_after big_sync calls event bounds =
    flat_map-map (owed_by event) (stream_after big_sync calls) (streams_of big_sync.which)
    ∙ flat_map_same (λ bis. owed_by event (stream_after big_sync calls bis)) (units_on event calls big_sync) (streams_of big_sync.which)
    (λ bis. owed_one event (stay_on big_sync bis) (stream_calls (stay_on big_sync bis) calls) bounds)

-- a sink on a group
somewhere : (p : Option BigSync) (calls : List Call) (on : OnGroup) → Some on ≡ option_map (on_after calls) p
    → (big_sync : BigSync) × (p ≡ Some big_sync) × (on ≡ on_after calls big_sync)
somewhere None calls on is = absurd (cc)
somewhere (Some big_sync) calls on is = (big_sync, refl, same_Some on (on_after calls big_sync) is)

pub some_answers : (calls : List Call) (event bis subevent : ℕ) (octets : List ℕ) (on : OnGroup) → 1 ≤ bis → bis ≤ 31
    → StandsFor calls (Some on) → answer_on event bis subevent octets on ≡ hearing_of calls event bis subevent octets
some_answers calls event bis subevent octets on least greatest stands = grind (arith, somewhere, place, answer_on, answer_after)

pub some_hears : (calls : List Call) (event bis subevent : ℕ) (octets : List ℕ) (on : OnGroup) → 1 ≤ bis → bis ≤ 31 → Bounds on.info
    → StandsFor calls (Some on) → StandsFor (hear event bis subevent octets ∷ calls) (Some (hear_on event bis subevent octets on))
some_hears calls event bis subevent octets on least greatest bounds stands =
    grind (arith, somewhere, place, place_is, hear_on, hear_after, option_map, on_after, hear)

-- the PDUs of an event put it on no other group
where_place : (event bis subevent : ℕ) (pdu : Option (List ℕ)) (calls : List Call) → place (heard_where event bis subevent pdu calls) ≡ place calls
where_place event bis subevent None calls = refl
where_place event bis subevent (Some octets) calls = refl

first_place : (event bis : ℕ) (pdus : List (Option (List ℕ))) (count : ℕ) (calls : List Call) → place (heard_first event bis pdus count calls) ≡ place calls
first_place event bis pdus zero calls = refl
first_place event bis pdus (suc s) calls =
    where_place event bis s (get_or pdus s None) (heard_first event bis pdus s calls) ∙ first_place event bis pdus s calls

nowhere : (p : Option BigSync) (calls : List Call) → None ≡ option_map (on_after calls) p → p ≡ None
nowhere None calls is = refl
nowhere (Some big_sync) calls is = absurd (cc)

pub none_hears : (calls : List Call) (event bis : ℕ) (pdus : List (Option (List ℕ))) → StandsFor calls None
    → StandsFor (heard_calls event bis pdus calls) None
none_hears calls event bis pdus stands = record {
  place_is = sym (ap (option_map (on_after (heard_calls event bis pdus calls)))
      (first_place event bis pdus (length pdus) calls ∙ nowhere (place calls) calls stands.place_is));
}

pub some_hears_all : (calls : List Call) (event bis : ℕ) (pdus : List (Option (List ℕ))) (on : OnGroup) → 1 ≤ bis → bis ≤ 31 → Bounds on.info
    → StandsFor calls (Some on) → StandsFor (heard_calls event bis pdus calls) (Some (hear_all_on event bis pdus on))
some_hears_all calls event bis pdus on least greatest bounds stands =
    let at : (big_sync : BigSync) × (place calls ≡ Some big_sync) × (on ≡ on_after calls big_sync) = somewhere (place calls) calls on stands.place_is in
    let now : List Call = heard_calls event bis pdus calls in
    let same : hear_all_on event bis pdus on ≡ on_after now at.0 =
    ap (hear_all_on event bis pdus) at.2 ∙ event_after at.0 calls event bis pdus least greatest (subst (λ o. Bounds o.info) at.2 bounds) in
    let there : place now ≡ Some at.0 = first_place event bis pdus (length pdus) calls ∙ at.1 in
    record { place_is = ap Some same ∙ sym (ap (option_map (on_after now)) there) }

pub some_hands : (calls : List Call) (event : ℕ) (on : OnGroup) → Bounds on.info
    → StandsFor calls (Some on) → owed_on event on ≡ handed_at calls event
some_hands calls event on bounds stands = grind (arith, somewhere, place, owed_on, owed_after, handed_by)

pub some_ticks : (calls : List Call) (event : ℕ) (on : OnGroup) → Bounds on.info
    → StandsFor calls (Some on) → StandsFor (tick event ∷ calls) (Some (tick_on event on))
some_ticks calls event on bounds stands = grind (arith, somewhere, place, place_is, tick_on, tick_after, option_map, on_after, tick)

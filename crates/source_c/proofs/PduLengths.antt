-- How many octets a PDU of a source has, by its framing.
use Rattle.std.proofs.Common.{◌≡◌, ℕ, zero, suc, ◌+◌, ◌-◌, ◌*◌, ◌/◌, ◌%◌, ◌≤◌, Bool, true, false, List, [], ◌∷◌, ◌++◌, length, take, drop, map, Option, Some, None, refl, sym, ap, ◌∙◌, subst, arith, length-append, ltb}
use Rattle.std.proofs.lemmas.Bool.{eqb-true}
use Rattle.std.proofs.lemmas.Grind.{div_ceil_times}
use Rattle.std.proofs.lemmas.List.{flat_map_more, length-drop, length-take}
use Rattle.std.proofs.lemmas.Nat.{mul-le}
use Rattle.std.specs.Int.{div_ceil}
use Rattle.std.specs.List.{AllByRecursion, AllZip, range_with_len, slice_get}
use Rattle.std.specs.Option.{option_and_then}
use Rattle.std.specs.Prelude.{if◌then◌else◌, ◌==◌}
use Rattle.big_info.specs.Schedule.{per_unit_of}
use Rattle.big_info.specs.declared.info.BigInfo.{BigInfo}
use Rattle.iso_pdu.specs.Encoding.{payload_of, pdu, segment, segments}
use Rattle.iso_pdu.specs.Layout.{Content, Part, end, fragment, framed, more, start}
use Rattle.isoal_base.specs.Air.{Air, Laid, event_at, pdu_at}
use Rattle.isoal_framed.specs.Air.{AllCome, IsAirOf, open_parts, part_of, pdus_of}
use Rattle.isoal_framed.specs.Calls.{Call as TimedCall, Timed, accept as accept_timed, accepted, lay as lay_at}
use Rattle.isoal_framed.specs.Places.{Act, carries, ends, leaves_out, overhead, room, sent, done}
use Rattle.isoal_unframed.specs.Air.{laid_u, unframed_air, unit_at}
use Rattle.isoal_unframed.specs.Calls.{Call as PlainCall, accept, events, lay}
use Rattle.isoal_unframed.specs.Slot.{fragments_of, laid}
use Rattle.source_machine.specs.Airs.{AreAirs, IsAir, pdu_of}
use Rattle.source_machine.specs.Calls.{Call, Setup, framed_calls, stream_calls}
use Rattle.source_machine.specs.Setups.{IsChecked}
use Rattle.radio_schedule.specs.PayloadNumber.{payload_number}

-- each PDU has at most so many octets
abbrev AreShort : ℕ → List (List ℕ) → Type 0
AreShort most pdus = AllByRecursion (λ (octets : List ℕ). length octets ≤ most) pdus

abbrev IsShortAir : ℕ → Air → Type 0
IsShortAir most [] = Unit {0}
IsShortAir most (entry ∷ earlier) = AreShort most entry.event.pdus × IsShortAir most earlier

-- ---- a PDU of an air

got_short : (most : ℕ) (pdus : List (List ℕ)) (i : ℕ) (octets : List ℕ) → AreShort most pdus → slice_get pdus i ≡ Some octets → length octets ≤ most
got_short most [] i octets short is = absurd cc
got_short most (first ∷ rest) zero octets short is =
    let same : first ≡ octets = cc in
    subst (λ (xs : List ℕ). length xs ≤ most) same short.0
got_short most (first ∷ rest) (suc i) octets short is = got_short most rest i octets short.1 is

here_short : (most : ℕ) (here : Bool) (event : Laid) (others : Option Laid) (found : Laid) → AreShort most event.pdus
    → (others ≡ Some found → AreShort most found.pdus) → (if here then Some event else others) ≡ Some found → AreShort most found.pdus
here_short most true event others found short earlier is =
    let same : event ≡ found = cc in
    subst (λ (it : Laid). AreShort most it.pdus) same short
here_short most false event others found short earlier is = earlier is

event_short : (most : ℕ) (air : Air) (event : ℕ) (found : Laid) → IsShortAir most air → event_at air event ≡ Some found → AreShort most found.pdus
event_short most [] event found short is = absurd cc
event_short most (entry ∷ earlier) event found short is =
    here_short most (length earlier == event) entry.event (event_at earlier event) found short.0
    (λ at. event_short most earlier event found short.1 at) is

found_short : (most i : ℕ) (found : Option Laid) (octets : List ℕ) → ((it : Laid) → found ≡ Some it → AreShort most it.pdus)
    → option_and_then (λ (it : Laid). slice_get it.pdus i) found ≡ Some octets → length octets ≤ most
found_short most i None octets short is = absurd cc
found_short most i (Some it) octets short is = got_short most it.pdus i octets (short it refl) is

at_short : (most bn : ℕ) (air : Air) (number : ℕ) (octets : List ℕ) → IsShortAir most air → pdu_at bn air number ≡ Some octets → length octets ≤ most
at_short most bn air number octets short is =
    found_short most (number % bn) (event_at air (number / bn)) octets (λ it at. event_short most air (number / bn) it short at) is

-- ---- an unframed stream

part_short : (m r : ℕ) (unit : List ℕ) (full last : Bool) → 1 ≤ m → (last ≡ true → r + 1 ≡ fragments_of m unit)
    → length (payload_of (if full then fragment (take m (drop (r * m) unit)) else if last then end (drop (r * m) unit) else fragment [])) ≤ m
part_short m r unit true last some is = omega (arith, length-take m (drop (r * m) unit))
part_short m r unit false true some is =
    let count : div_ceil (length unit) m ≤ r + 1 = omega (arith, is refl) in
    let lower : length unit ≤ div_ceil (length unit) m * m = (div_ceil_times (length unit) m some).0 in
    let upper : div_ceil (length unit) m * m ≤ (r + 1) * m = mul-le (div_ceil (length unit) m) m (r + 1) m count (omega arith) in
    let sum : (r + 1) * m ≡ r * m + m = omega arith in
    omega (arith, length-drop (r * m) unit, lower, upper, sum)
part_short m r unit false false some is = omega arith

content_short : (m : ℕ) (unit : Option (List ℕ)) (r : ℕ) → 1 ≤ m → length (payload_of (laid m unit r)) ≤ m
content_short m None r some = omega arith
content_short m (Some unit) r some =
    part_short m r unit (ltb (r + 1) (fragments_of m unit)) (r + 1 == fragments_of m unit) some (λ is. eqb-true (r + 1) (fragments_of m unit) is)

range_short : (most : ℕ) (f : ℕ → List ℕ) (first n : ℕ) → ((k : ℕ) → length (f k) ≤ most) → AreShort most (map f (range_with_len first n))
range_short most f first zero all = tt
range_short most f first (suc n) all = (all first, range_short most f (first + 1) n all)

pdu_short : (most : ℕ) (content : Content) → length (payload_of content) ≤ most → length (pdu content) ≤ most + 2
pdu_short most content short = omega arith

laid_short : (info : BigInfo) (calls : List PlainCall) (number : ℕ) → 1 ≤ info.max_pdu → length (laid_u info calls number) ≤ info.max_pdu + 2
laid_short info calls number some =
    let unit : Option (List ℕ) = unit_at info calls (number / info.bn) (number % info.bn / per_unit_of info) in
    let place : ℕ = number % info.bn % per_unit_of info in
    pdu_short info.max_pdu (laid info.max_pdu unit place) (content_short info.max_pdu unit place some)

unframed_short : (info : BigInfo) (calls : List PlainCall) → 1 ≤ info.max_pdu → IsShortAir (info.max_pdu + 2) (unframed_air info calls)
unframed_short info [] some = tt
unframed_short info (accept octets ∷ earlier) some = unframed_short info earlier some
unframed_short info (lay ∷ earlier) some = (
  range_short (info.max_pdu + 2) (laid_u info (lay ∷ earlier)) (events earlier * info.bn) info.bn (λ number. laid_short info (lay ∷ earlier) number some),
  unframed_short info earlier some,
)

-- ---- a framed stream

unit_part_short : (anchor before count : ℕ) (fresh : Bool) (unit : Timed) (complete : Bool)
    → length (segment (if fresh then start (anchor - unit.time) complete (take count unit.octets) else more complete (take count (drop before unit.octets))))
    ≤ (if fresh then 5 else 2) + count
unit_part_short anchor before count true unit complete = omega (arith, length-take count unit.octets)
unit_part_short anchor before count false unit complete = omega (arith, length-take count (drop before unit.octets))

no_part_short : (fresh : Bool) (count : ℕ) → 2 ≤ (if fresh then 5 else 2) + count
no_part_short true count = omega arith
no_part_short false count = omega arith

segment_short : (anchor before count : ℕ) (unit : Option Timed) (complete : Bool)
    → length (segment (part_of anchor before unit count complete)) ≤ overhead before + count
segment_short anchor before count None complete = no_part_short (before == 0) count
segment_short anchor before count (Some unit) complete = unit_part_short anchor before count (before == 0) unit complete

one_more : (parts : List Part) (part : Part) → length (segments (parts ++ part ∷ [])) ≡ length (segments parts) + length (segment part)
one_more parts part = sym (ap length (flat_map_more segment [] parts part)) ∙ length-append (segments parts) (segment part)

room_within : (max_pdu : ℕ) (acts : List Act) → room max_pdu acts ≤ max_pdu
room_within max_pdu [] = omega arith
room_within max_pdu (carries count complete ∷ acts) = omega (arith, room_within max_pdu acts)
room_within max_pdu (leaves_out ∷ acts) = room_within max_pdu acts
room_within max_pdu (ends ∷ acts) = omega arith

open_short : (max_pdu : ℕ) (units : List Timed) (anchor : ℕ) (earlier acts : List Act) → AllCome max_pdu units anchor earlier acts
    → length (segments (open_parts units anchor earlier acts)) + room max_pdu (acts ++ earlier) ≤ max_pdu
open_short max_pdu units anchor earlier [] come = omega (arith, room_within max_pdu earlier)
open_short max_pdu units anchor earlier (carries count complete ∷ acts) (before, (unit, turn, not_stale, segment_is)) =
    let so_far : length (segments (open_parts units anchor earlier acts)) + room max_pdu (acts ++ earlier) ≤ max_pdu =
    open_short max_pdu units anchor earlier acts before in
    let fits : overhead (sent (acts ++ earlier)) + count ≤ room max_pdu (acts ++ earlier) = segment_is.fits in
    let part : Part = part_of anchor (sent (acts ++ earlier)) (slice_get units (done (acts ++ earlier))) count complete in
    let short : length (segment part) ≤ overhead (sent (acts ++ earlier)) + count =
    segment_short anchor (sent (acts ++ earlier)) count (slice_get units (done (acts ++ earlier))) complete in
    let sum = one_more (open_parts units anchor earlier acts) part in
    omega (arith, so_far, fits, short, sum)
open_short max_pdu units anchor earlier (leaves_out ∷ acts) come = open_short max_pdu units anchor earlier acts come.0
open_short max_pdu units anchor earlier (ends ∷ acts) come = omega arith

one_more_short : (most : ℕ) (pdus : List (List ℕ)) (octets : List ℕ) → AreShort most pdus → length octets ≤ most → AreShort most (pdus ++ octets ∷ [])
one_more_short most [] octets short last = (last, tt)
one_more_short most (first ∷ rest) octets short last = (short.0, one_more_short most rest octets short.1 last)

pdus_short : (max_pdu : ℕ) (units : List Timed) (anchor : ℕ) (earlier acts : List Act) → AllCome max_pdu units anchor earlier acts
    → AreShort (max_pdu + 2) (pdus_of units anchor earlier acts)
pdus_short max_pdu units anchor earlier [] come = tt
pdus_short max_pdu units anchor earlier (carries count complete ∷ acts) come = pdus_short max_pdu units anchor earlier acts come.0
pdus_short max_pdu units anchor earlier (leaves_out ∷ acts) come = pdus_short max_pdu units anchor earlier acts come.0
pdus_short max_pdu units anchor earlier (ends ∷ acts) come =
    one_more_short (max_pdu + 2) (pdus_of units anchor earlier acts) (pdu (framed (open_parts units anchor earlier acts)))
    (pdus_short max_pdu units anchor earlier acts come.0)
    (pdu_short max_pdu (framed (open_parts units anchor earlier acts)) (omega (arith, open_short max_pdu units anchor earlier acts come.0)))

framed_short : (info : BigInfo) (calls : List TimedCall) (acts : List Act) (air : Air) → IsAirOf info calls acts air → IsShortAir (info.max_pdu + 2) air
framed_short info [] acts air is = subst (IsShortAir (info.max_pdu + 2)) (sym is.1) tt
framed_short info (accept_timed time octets ∷ calls) acts air is = framed_short info calls acts air is
framed_short info (lay_at anchor ∷ calls) acts air (earlier, before, own, so_far, event_is, acts_are, air_is) =
    subst (IsShortAir (info.max_pdu + 2)) (sym air_is) (
      pdus_short info.max_pdu (accepted calls) anchor earlier (ends ∷ own) event_is.come,
      framed_short info calls earlier before so_far,
    )

-- ---- a source

by_framing : (framing : ℕ) (Wanted : Type 0) → framing ≤ 1 → (framing ≡ 0 → Wanted) → (framing ≡ 1 → Wanted) → Wanted
by_framing zero Wanted within plain timed = plain refl
by_framing (suc zero) Wanted within plain timed = timed refl
by_framing (suc (suc n)) Wanted within plain timed = absurd (omega arith)

air_short : (setup : Setup) (calls : List Call) (bis : ℕ) (air : Air) → IsChecked setup.info → IsAir setup calls bis air
    → IsShortAir (setup.info.max_pdu + 2) air
air_short setup calls bis air checked is =
    by_framing setup.info.framing (IsShortAir (setup.info.max_pdu + 2) air) checked.framing
    (λ plain. subst (IsShortAir (setup.info.max_pdu + 2)) (sym (is.unframed plain))
    (unframed_short setup.info (stream_calls setup.info bis calls) checked.bounds.max_pdu_least))
    (λ timed. framed_short setup.info (framed_calls setup bis calls) (is.framed timed).0 air (is.framed timed).1)

zip_at : {A B : Type 0} (R : A → B → Type 0) (xs : List A) (ys : List B) (i : ℕ) (y : B) → AllZip R xs ys → slice_get ys i ≡ Some y → (x : A) × R x y
zip_at R xs [] i y all is = absurd cc
zip_at R [] (z ∷ ys) i y all is = absurd all
zip_at R (x ∷ xs) (z ∷ ys) zero y all is =
    let same : z ≡ y = cc in
    (x, subst (R x) same all.0)
zip_at R (x ∷ xs) (z ∷ ys) (suc i) y all is = zip_at R xs ys i y all.1 is

stream_short : (most bn number : ℕ) (found : Option Air) (octets : List ℕ) → ((air : Air) → found ≡ Some air → IsShortAir most air)
    → option_and_then (λ (air : Air). pdu_at bn air number) found ≡ Some octets → length octets ≤ most
stream_short most bn number None octets short is = absurd cc
stream_short most bn number (Some air) octets short is = at_short most bn air number octets (short air refl) is

-- a PDU of a source has two octets before its payload, which has at most Max_PDU octets
pub pdu_is_short : (setup : Setup) (calls : List Call) (airs : List Air) (event bis subevent : ℕ) (octets : List ℕ) → IsChecked setup.info
    → AreAirs setup calls airs → pdu_of setup airs event bis subevent ≡ Some octets → length octets ≤ setup.info.max_pdu + 2
pdu_is_short setup calls airs event bis subevent octets checked are is =
    stream_short (setup.info.max_pdu + 2) setup.info.bn (payload_number setup.info (event - setup.first) subevent) (slice_get airs (bis - 1)) octets
    (λ air at. let its = zip_at (IsAir setup calls) (range_with_len 1 setup.info.num_bis) airs (bis - 1) air are at in
    air_short setup calls its.0 air checked its.1) is

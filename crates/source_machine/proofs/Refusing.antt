-- Why a source refuses a unit, by what its stream's sender says.
use Rattle.source_machine.proofs.Prelude.{ℕ, ◌*◌, ◌^◌, ◌≡◌, ◌<◌, ◌≤◌, ◌-◌, Bool, true, false, not, Option, Some, None, List, length, get_or, arith, refl, cases_lt, eq-eqb, ne_eqb, le-leb, lt-leb, le-ltb, lt-ltb, and_from, ◌&&◌, ◌||◌, nat_le, if◌then◌else◌, iso_us_of, Air, AreAirs, waiting_of, Setup, Call, framed_calls, last_time_of, next_anchor_of, stream_calls, give_fault, has_its_time, is_above, misfit_of, of_sender, refused_unit, IsChecked, HasTime, PutStops, SenderStands, info_of, waiting_in, Source, StandsFor, Stream, StreamIs, IsFit, IsSource, limit_of, Sender, announce_fault, Above, NotPast}
use Rattle.isoal_base.specs.declared.laid.PutFault.{PutFault}
use Rattle.source_machine.specs.UnitFaults as unit_faults
use Rattle.source_machine.proofs.Framings.{airs_only, info_is, waiting_is}
use Rattle.source_machine.proofs.Standing.{stream_is}

in_time : (ahead : Bool) (anchor time : ℕ) → NotPast (if ahead then None else Some anchor) time → (ahead || nat_le time anchor) ≡ true
in_time ahead anchor time within = grind (arith, le-leb)

not_both : (last : Option ℕ) (ahead : Bool) (anchor time : ℕ) → (¬ (Above last time × NotPast (if ahead then None else Some anchor) time))
    → (is_above last time && (ahead || nat_le time anchor)) ≡ false
not_both last ahead anchor time out = grind (arith, cases_lt, lt-leb, lt-ltb, le-ltb)

-- a sender takes the time that the framing wants
time_taken : (setup : Setup) (calls : List Call) (bis : ℕ) (sender : Sender) (time : Option ℕ)
    → SenderStands setup.info (stream_calls setup.info bis calls) (framed_calls setup bis calls) sender
    → HasTime sender time (if setup.ahead then None else Some (next_anchor_of setup calls)) → has_its_time setup calls bis time ≡ true
time_taken setup calls bis sender time stands has =
    grind (arith, eq-eqb, ne_eqb, and_from, is_above, last_time_of, nat_le, next_anchor_of, lt-ltb, in_time)

-- and no other
time_refused : (setup : Setup) (calls : List Call) (bis : ℕ) (sender : Sender) (time : Option ℕ)
    → SenderStands setup.info (stream_calls setup.info bis calls) (framed_calls setup bis calls) sender
    → (¬ HasTime sender time (if setup.ahead then None else Some (next_anchor_of setup calls))) → has_its_time setup calls bis time ≡ false
time_refused setup calls bis sender time stands out_of = grind (arith, eq-eqb, ne_eqb, is_above, nat_le, next_anchor_of, not_both)

-- a stream of a source, and a unit that the group has a stream for
record Here (source : Source) (calls : List Call) (airs : List Air) (bis : ℕ) (octets : List ℕ) (stream : Stream) : Type 0 where
  fit : IsFit source.setup bis octets
  stands : StreamIs source.setup calls bis stream
  waits : waiting_of calls airs bis ≡ waiting_in stream.sender
  limit : limit_of source ≡ (if source.setup.ahead then None else Some (next_anchor_of source.setup calls))

here : (source : Source) (calls : List Call) (airs : List Air) (bis : ℕ) (octets : List ℕ) (stream : Stream) → StandsFor calls source → AreAirs source.setup calls airs
    → IsSource source → IsChecked source.setup.info → IsFit source.setup bis octets → 1 ≤ bis → stream ≡ get_or source.streams (bis - 1) stream
    → Here source calls airs bis octets stream
here source calls airs bis octets stream stands are source_is checked fit least is =
    grind (arith, stream_is, waiting_of, airs_only, waiting_is, iso_us_of)

fit_fault : (source : Source) (calls : List Call) (airs : List Air) (bis : ℕ) (time : Option ℕ) (octets : List ℕ) → IsFit source.setup bis octets
    → give_fault source.setup calls airs bis time octets
    ≡ (if not (has_its_time source.setup calls bis time) then Some unit_faults.TimeOrder
    else (if nat_le 16 (waiting_of calls airs bis) then Some unit_faults.Backlog else None))
fit_fault source calls airs bis time octets fit = grind (arith, le-ltb, length)

timed : (source : Source) (calls : List Call) (airs : List Air) (bis : ℕ) (time : Option ℕ) (octets : List ℕ) (stream : Stream) → Here source calls airs bis octets stream
    → HasTime stream.sender time (limit_of source) → has_its_time source.setup calls bis time ≡ true
timed source calls airs bis time octets stream at has = grind (arith, time_taken)

taken : (source : Source) (calls : List Call) (airs : List Air) (bis : ℕ) (time : Option ℕ) (octets : List ℕ) (stream : Stream) → Here source calls airs bis octets stream
    → HasTime stream.sender time (limit_of source) → waiting_in stream.sender < 16 → give_fault source.setup calls airs bis time octets ≡ None
taken source calls airs bis time octets stream at has room = grind (arith, fit_fault, timed, lt-leb, waiting_in)

refused : (source : Source) (calls : List Call) (airs : List Air) (bis : ℕ) (time : Option ℕ) (octets : List ℕ) (stream : Stream) (fault : PutFault)
    → Here source calls airs bis octets stream → PutStops stream.sender time (limit_of source) octets fault
    → give_fault source.setup calls airs bis time octets ≡ refused_unit (of_sender fault)
refused source calls airs bis time octets stream fault at stops =
    grind (arith, info_is, stream_calls, framed_calls, info_of, fit_fault, time_refused, timed, le-leb, waiting_in, taken)

pub takes_unit : (source : Source) (calls : List Call) (airs : List Air) (bis : ℕ) (time : Option ℕ) (octets : List ℕ) (stream : Stream) → StandsFor calls source
    → AreAirs source.setup calls airs → IsSource source → IsChecked source.setup.info → IsFit source.setup bis octets → 1 ≤ bis → stream ≡ get_or source.streams (bis - 1) stream
    → HasTime stream.sender time (limit_of source) → waiting_in stream.sender < 16 → give_fault source.setup calls airs bis time octets ≡ None
takes_unit source calls airs bis time octets stream stands are source_is checked fit least is has room = grind (arith, taken, here)

-- a sender's refusal says why the source refuses the unit
pub put_refused : (source : Source) (calls : List Call) (airs : List Air) (bis : ℕ) (time : Option ℕ) (octets : List ℕ) (stream : Stream) (fault : PutFault) → StandsFor calls source
    → AreAirs source.setup calls airs → IsSource source → IsChecked source.setup.info → IsFit source.setup bis octets → 1 ≤ bis → stream ≡ get_or source.streams (bis - 1) stream
    → PutStops stream.sender time (limit_of source) octets fault
    → give_fault source.setup calls airs bis time octets ≡ refused_unit (of_sender fault)
put_refused source calls airs bis time octets stream fault stands are source_is checked fit least is stops = grind (arith, refused, here)

-- ---- why it would refuse the unit however few wait

limit_same : (source : Source) (calls : List Call) → StandsFor calls source
    → limit_of source ≡ (if source.setup.ahead then None else Some (next_anchor_of source.setup calls))
limit_same source calls stands = grind (arith, iso_us_of)

fit_misfit : (setup : Setup) (calls : List Call) (bis : ℕ) (time : Option ℕ) (octets : List ℕ) → IsFit setup bis octets
    → misfit_of setup calls bis time octets ≡ (if not (has_its_time setup calls bis time) then Some unit_faults.TimeOrder else None)
fit_misfit setup calls bis time octets fit = rw (le-ltb setup.info.num_bis bis fit.has_stream, le-ltb setup.info.max_sdu (length octets) fit.short) refl

own_stream : (source : Source) (calls : List Call) (bis : ℕ) (octets : List ℕ) (stream : Stream) → StandsFor calls source → IsSource source
    → IsFit source.setup bis octets → 1 ≤ bis → stream ≡ get_or source.streams (bis - 1) stream → StreamIs source.setup calls bis stream
own_stream source calls bis octets stream stands source_is fit least is = grind (arith, stream_is)

pub fits_then : (source : Source) (calls : List Call) (bis : ℕ) (time : Option ℕ) (octets : List ℕ) (stream : Stream) → StandsFor calls source → IsSource source
    → IsFit source.setup bis octets → 1 ≤ bis → stream ≡ get_or source.streams (bis - 1) stream
    → HasTime stream.sender time (limit_of source) → misfit_of source.setup calls bis time octets ≡ None
fits_then source calls bis time octets stream stands source_is fit least is has =
    grind (arith, own_stream, fit_misfit, time_taken, limit_same)

pub late_then : (source : Source) (calls : List Call) (bis : ℕ) (time : Option ℕ) (octets : List ℕ) (stream : Stream) → StandsFor calls source → IsSource source
    → IsFit source.setup bis octets → 1 ≤ bis → stream ≡ get_or source.streams (bis - 1) stream
    → (¬ HasTime stream.sender time (limit_of source)) → misfit_of source.setup calls bis time octets ≡ Some unit_faults.TimeOrder
late_then source calls bis time octets stream stands source_is fit least is lacks =
    grind (arith, own_stream, fit_misfit, time_refused, limit_same)

-- an event whose number the payload counter has is announced
pub announced : (source : Source) (calls : List Call) (bn : ℕ) → bn ≡ source.setup.info.bn → source.next * bn < 2 ^ 39 → StandsFor calls source
    → announce_fault source.setup calls ≡ None
announced source calls bn same below stands = grind (arith, lt-leb)

-- What a stream keeps of the events that were laid.
use Rattle.source_machine.proofs.Prelude.{ℕ, ◌≡◌, ◌<◌, ◌≤◌, ◌+◌, ◌*◌, min, suc, List, [], ◌∷◌, ◌++◌, length, get_or, drop, map, append_assoc, arith, ◌∙◌, ap, sym, refl, subst, Option, Result, unwrap_or, OnOk, cases_eq, eq-eqb, ne_eqb, append-nil, length-append, length-drop, map-append, length-map-range_with_len, flat_map, range_with_len, BigInfo, map_append, map_rest, map_same, Air, Entry, Laid, accept, lay, lays, flat_last, air_after, stale_in, stale_on, framed_calls, framed_lays, stream_calls, IsChecked, HasTime, SenderStands, info_of, waiting_in, Stream, StreamStands, info_in, kept_of, last_laid, pdus_at, Accepts, AllTell, Grows, Lays, LaysOne, Tells, told_by, Sender, Stale}
use Rattle.circular_buffer.specs.Buffer.{keep_last}
use Rattle.isoal_unframed.specs.Calls.{Call as PlainCall}
use Rattle.isoal_framed.specs.Calls.{Call as TimedCall, accept as accept_timed, lay as lay_at}
use Rattle.source_machine.proofs.Framings.{info_is}

-- a new event is put behind those that are kept, of which the oldest goes where there is no room

pub last_laid_more : (count : ℕ) (entry : Entry) (air : Air) → 1 ≤ count
    → last_laid count (entry ∷ air) ≡ keep_last count (last_laid count air ++ entry.event.pdus ∷ [])
last_laid_more count entry air some =
    grind (
      arith,
      length,
      min,
      pdus_at,
      map,
      range_with_len,
      last_laid,
      map_same,
      ne_eqb,
      eq-eqb,
      map_append,
      length-map-range_with_len,
      drop,
      map_rest,
    )

keep_last_length : {X : Type 0} (count : ℕ) (xs : List X) (x : X) → length (keep_last count (xs ++ x ∷ [])) ≡ min count (length xs + 1)
keep_last_length count xs x = grind (arith, length, length-append, length-drop)

-- the sender laid an event, whatever calls it stands for
abbrev pub LaysEvent : ℕ → Sender → Sender → Laid → Type 0
LaysEvent anchor out next event =
    (info : BigInfo) (plain : List PlainCall) (timed : List TimedCall) → IsChecked info → SenderStands info plain timed out
    → SenderStands info (lay ∷ plain) (lay_at anchor ∷ timed) next
    × (begun : ℕ) × (air_after info (lay ∷ plain) (lay_at anchor ∷ timed) ≡ record { event = event; begun = begun } ∷ air_after info plain timed)

pub lays_one : (anchor bis : ℕ) (out next : Sender) (laid : List (List (List ℕ))) (event : Laid) (told now_told : List Stale)
    → info_of next ≡ info_of out → length laid ≤ kept_of (info_of out) → LaysEvent anchor out next event → now_told ≡ told ++ stale_on bis event.stale
    → LaysOne anchor (record { bis = bis; sender = out; laid = laid })
    (record { bis = bis; sender = next; laid = keep_last (kept_of (info_of out)) (laid ++ event.pdus ∷ []) }) told now_told
lays_one anchor bis out next laid event told now_told same room is tells =
    grind (arith, kept_of, info_of, length, min, keep_last_length, last_laid, air_after, lay, info_is, last_laid_more, stale_on, stale_in)

pub lays_none : (anchor iso_us : ℕ) (stream : Stream) → Lays anchor iso_us 0 stream stream
lays_none anchor iso_us stream = grind arith

pub tells_none : (anchor iso_us : ℕ) (stream : Stream) (told : List Stale) → Tells anchor iso_us 0 stream told told
tells_none anchor iso_us stream told = λ info bis plain timed checked at. sym (append-nil told)

pub lays_more : (anchor iso_us count : ℕ) (old now new : Stream) (told now_told : List Stale) → Lays anchor iso_us count old now
    → LaysOne (anchor + count * iso_us) now new told now_told → Lays anchor iso_us (count + 1) old new
lays_more anchor iso_us count old now new told now_told first last =
    let room : kept_of (info_in now) ≡ kept_of (info_in old) = ap kept_of first.grows.info in
    let next : count + 1 ≡ suc count = omega arith in
    record {
      grows = record { info = last.grows.info ∙ first.grows.info; laid = omega (arith, first.grows.laid, last.grows.laid) };
      laid = omega (arith, first.laid, last.laid, room, first.grows.laid, last.grows.laid);
      stands = λ info bis plain timed checked at.
          subst (λ n. StreamStands info bis (lays n plain) (framed_lays anchor iso_us n timed) new) (sym next)
          (last.stands info bis (lays count plain) (framed_lays anchor iso_us count timed) checked (first.stands info bis plain timed checked at)).0;
    }

-- the units that a last event left out stand behind those of the events before it
stale_next : (info : BigInfo) (count anchor : ℕ) (plain : List PlainCall) (timed : List TimedCall)
    → stale_in (suc count) (air_after info (lay ∷ plain) (lay_at anchor ∷ timed))
    ≡ stale_in count (air_after info plain timed) ++ stale_in 1 (air_after info (lay ∷ plain) (lay_at anchor ∷ timed))
stale_next info count anchor plain timed = grind (arith, cases_eq, eq-eqb, ne_eqb)

pub tells_more : (anchor iso_us count : ℕ) (old now new : Stream) (first_told told now_told : List Stale) → Lays anchor iso_us count old now
    → Tells anchor iso_us count old first_told told → LaysOne (anchor + count * iso_us) now new told now_told
    → Tells anchor iso_us (count + 1) old first_told now_told
tells_more anchor iso_us count old now new first_told told now_told first tells last = λ info bis plain timed checked at.
    let next : count + 1 ≡ suc count = omega arith in
    let before = lays count plain in
    let before_timed = framed_lays anchor iso_us count timed in
    let here : ℕ = anchor + count * iso_us in
    let earlier : List ℕ = stale_in count (air_after info before before_timed) in
    let own : List ℕ = stale_in 1 (air_after info (lay ∷ before) (lay_at here ∷ before_timed)) in
    subst (λ n. now_told ≡ first_told ++ stale_on bis (stale_in n (air_after info (lays n plain) (framed_lays anchor iso_us n timed)))) (sym next)
    (grind (arith, stale_on, append_assoc, map-append, stale_next))

pub grows_none : (stream : Stream) → Grows stream stream
grows_none stream = record { info = refl; laid = omega arith }

pub all_tell_none : (anchor iso_us count : ℕ) (streams : List Stream) (told : List Stale) → AllTell anchor iso_us count streams 0 told told
all_tell_none anchor iso_us count streams told = λ setup calls checked are. sym (append-nil told)

-- one stream more tells
pub all_tell : (anchor iso_us count : ℕ) (olds streams : List Stream) (i : ℕ) (item : Stream) (first_told told now_told : List Stale) → length streams ≡ length olds → i < length streams
    → ((k : ℕ) (none : Stream) → i ≤ k → get_or streams k none ≡ get_or olds k none)
    → AllTell anchor iso_us count olds i first_told told → Tells anchor iso_us count (get_or streams i item) told now_told
    → AllTell anchor iso_us count olds (i + 1) first_told now_told
all_tell anchor iso_us count olds streams i item first_told told now_told long within same before tells =
    grind (arith, get_or, stream_calls, framed_calls, told_by, append_assoc, flat_map, range_with_len, flat_last)

pub accepts : {T E : Type 0} (bis : ℕ) (old new : Sender) (laid : List (List (List ℕ))) (time limit : Option ℕ) (octets : List ℕ) (r : Result T E)
    → OnOk r (HasTime old time limit × (waiting_in old < 16) × (info_of new ≡ info_of old))
    → OnOk r ((info : BigInfo) (plain : List PlainCall) (timed : List TimedCall) → SenderStands info plain timed old
    → SenderStands info (accept octets ∷ plain) (accept_timed (unwrap_or time 0) octets ∷ timed) new)
    → OnOk r (Accepts time limit octets (record { bis = bis; sender = old; laid = laid }) (record { bis = bis; sender = new; laid = laid }))
accepts bis old new laid time limit octets r ok stands = grind arith

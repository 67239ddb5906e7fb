-- The streams of a source as events are laid.
use Rattle.source_machine.proofs.Prelude.{ℕ, ◌≡◌, ◌<◌, ◌≤◌, ◌+◌, ◌-◌, ◌*◌, ◌^◌, List, ◌∷◌, length, length-set, get_or, set, arith, ◌∙◌, sym, subst, cases_eq, cases_lt, eq-eqb, ne_eqb, mul-le, AllZip-get_or, length_all_zip, All, AllZip, horizon_of, iso_us_of, lays, Setup, Call, event, events, framed_calls, framed_lays, laid_before, laid_with, lay_anchor, next_of, stream_calls, IsChecked, Source, Stream, StreamStands, StreamsAre, info_in, kept_of, Grows, IsLaid, IsReady, IsSource, Lays, LaysNext, Laying, All-set}

stream_grown : (setup : Setup) (next : ℕ) (old new : Stream) → IsReady setup next old → Grows old new → IsReady setup next new
stream_grown setup next old new ready grows = grind arith

pub ready_grown : (setup : Setup) (next : ℕ) (old new : List Stream) → All (IsReady setup next) old → AllZip Grows old new → All (IsReady setup next) new
ready_grown setup next old new ready grows = λ k none within.
    let same = length_all_zip Grows old new grows in
    let before : k < length old = omega arith in
    stream_grown setup next (get_or old k none) (get_or new k none) (ready k none before) (AllZip-get_or Grows old new k none none grows before)

stream_next : (setup : Setup) (next anchor iso_us count : ℕ) (old new : Stream) → setup.first ≤ next
    → (next ≡ setup.first → count ≡ horizon_of setup.info + 1) → (setup.first < next → count ≡ 1)
    → IsReady setup next old → Lays anchor iso_us count old new → IsReady setup (next + 1) new
stream_next setup next anchor iso_us count old new order first later ready laying = grind (arith, kept_of, info_in, horizon_of, cases_lt)

ready_next : (setup : Setup) (next anchor iso_us count : ℕ) (old new : List Stream) → setup.first ≤ next
    → (next ≡ setup.first → count ≡ horizon_of setup.info + 1) → (setup.first < next → count ≡ 1)
    → All (IsReady setup next) old → AllZip (Lays anchor iso_us count) old new → All (IsReady setup (next + 1)) new
ready_next setup next anchor iso_us count old new order first later ready laying = λ k none within.
    let same = length_all_zip (Lays anchor iso_us count) old new laying in
    let before : k < length old = omega arith in
    stream_next setup next anchor iso_us count (get_or old k none) (get_or new k none) order first later (ready k none before)
    (AllZip-get_or (Lays anchor iso_us count) old new k none none laying before)

-- what is laid with the next event, by the calls so far
pub record IsNext (setup : Setup) (calls : List Call) (laying : Laying) : Type 0 where
  pub count : laying.count ≡ laid_with setup.info calls
  pub anchor : laying.anchor ≡ lay_anchor setup (laid_before setup.info calls)
  pub iso_us : laying.iso_us ≡ iso_us_of setup.info

pub is_next : (source : Source) (calls : List Call) (laying : Laying) → source.next ≡ next_of source.setup calls → LaysNext source laying → IsNext source.setup calls laying
is_next source calls laying at next = grind (arith, cases_eq, events, eq-eqb, horizon_of, ne_eqb, iso_us_of)

pub streams_next : (setup : Setup) (calls : List Call) (laying : Laying) (old new : List Stream) → IsChecked setup.info → IsNext setup calls laying
    → AllZip (Lays laying.anchor laying.iso_us laying.count) old new → StreamsAre setup calls old → StreamsAre setup (event ∷ calls) new
streams_next setup calls laying old new checked next laid are = λ k none within.
    let same = length_all_zip (Lays laying.anchor laying.iso_us laying.count) old new laid in
    let before : k < length old = omega arith in
    let plain = stream_calls setup.info (k + 1) calls in
    let timed = framed_calls setup (k + 1) calls in
    let one = AllZip-get_or (Lays laying.anchor laying.iso_us laying.count) old new k none none laid before in
    let stands = one.stands setup.info (k + 1) plain timed checked (are k none before) in
    subst (λ n. StreamStands setup.info (k + 1) (lays n plain) (framed_lays (lay_anchor setup (laid_before setup.info calls)) (iso_us_of setup.info) n timed) (get_or new k none)) next.count
    (grind (arith, lays, framed_lays, iso_us_of, get_or))

ready_of : (source : Source) (laying : Laying) (new : List Stream) → IsSource source → LaysNext source laying
    → AllZip (Lays laying.anchor laying.iso_us laying.count) source.streams new → All (IsReady source.setup (source.next + 1)) new
ready_of source laying new is next laid =
    ready_next source.setup source.next laying.anchor laying.iso_us laying.count source.streams new is.first (λ first. (next.first first).0) (λ later. (next.later later).0) is.ready laid

-- the anchor of an event that is laid ahead has room
pub anchor_fits : (origin first at iso_us : ℕ) → origin ≤ 2 ^ 48 → at ≤ 2 ^ 39 + 31 → iso_us ≤ 4000000 → origin + (at - first) * iso_us < 2 ^ 63
anchor_fits origin first at iso_us low near short = grind (arith, mul-le)

pub source_grown : (source : Source) (new : List Stream) → IsSource source → AllZip Grows source.streams new
    → IsSource (record source { streams = new })
source_grown source new is grows = record {
  origin = is.origin;
  delay = is.delay;
  first = is.first;
  last = is.last;
  streams = sym (length_all_zip Grows source.streams new grows) ∙ is.streams;
  ready = ready_grown source.setup source.next source.streams new is.ready grows;
}

pub source_given : (source : Source) (k : ℕ) (old new : Stream) → IsSource source → k < length source.streams → old ≡ get_or source.streams k old
    → Grows old new → IsSource (record source { streams = set source.streams k new })
source_given source k old new is within at grows =
    let P = IsReady source.setup source.next in
    let all = All-set P source.streams k new (stream_grown source.setup source.next old new (subst P (sym at) (is.ready k old within)) grows) is.ready in
    record { origin = is.origin; delay = is.delay; first = is.first; last = is.last; streams = length-set source.streams k new ∙ is.streams; ready = all }

pub source_next : (source : Source) (laying : Laying) (new : List Stream) → IsSource source → source.next < 2 ^ 39 → LaysNext source laying
    → AllZip (Lays laying.anchor laying.iso_us laying.count) source.streams new
    → IsSource (record source { next = source.next + 1; streams = new })
source_next source laying new is below next laid = record {
  origin = is.origin;
  delay = is.delay;
  first = omega (arith, is.first);
  last = omega (arith, below);
  streams = sym (length_all_zip (Lays laying.anchor laying.iso_us laying.count) source.streams new laid) ∙ is.streams;
  ready = ready_of source laying new is next laid;
}

grown_by : (anchor iso_us count : ℕ) (old new : List Stream) → AllZip (Lays anchor iso_us count) old new → AllZip Grows old new
grown_by anchor iso_us count (x ∷ old) (y ∷ new) all = (all.0.grows, grown_by anchor iso_us count old new all.1)
grown_by anchor iso_us count old new all = search

-- the streams after laying, where no event is counted
pub source_laid : (source : Source) (laying : Laying) (new : List Stream) → IsSource source
    → AllZip (Lays laying.anchor laying.iso_us laying.count) source.streams new → IsSource (record source { streams = new })
source_laid source laying new is laid = source_grown source new is (grown_by laying.anchor laying.iso_us laying.count source.streams new laid)

-- each stream has the next event and the H events behind it
pub streams_laid : (source : Source) (laying : Laying) (new : List Stream) → IsSource source → LaysNext source laying
    → AllZip (Lays laying.anchor laying.iso_us laying.count) source.streams new → All (IsLaid source.setup.info 0) new
streams_laid source laying new is next laid = λ k none within.
    let ready = ready_of source laying new is next laid k none within in
    record { group = ready.info; kept = omega (arith, is.first, ready.kept (omega (arith, is.first))) }

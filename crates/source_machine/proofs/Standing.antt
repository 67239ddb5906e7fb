-- A source that stands for its calls.
use Rattle.source_machine.proofs.Prelude.{ℕ, ◌≡◌, ◌<◌, ◌≤◌, ◌+◌, ◌-◌, ◌*◌, Option, Some, List, [], ◌∷◌, ◌++◌, false, length, map, get_or, set, get_or-set_other, get_or-set_same, length-set, arith, ◌∙◌, ap, sym, refl, subst, inl, inr, cases_eq, cases_lt, get_or-append_right, get_or_append_left, length-append, BigInfo, length_all_zip, unwrap_or, AllZip, flat_map, range_with_len, slice_get, accept, flat_same, Sends, airs_of, stale_in, stale_of, stale_on, Setup, Call, give, event, framed_calls, laid_before, laid_with, lay_anchor, stream_calls, IsChecked, Source, StandsFor, Stream, StreamIs, StreamStands, StreamsAre, Accepts, Advances, AllTell, IsSource, Lays, LaysNext, Performs, sent_at, told_by, Laying, Stale}
use Rattle.base_grammar.specs.Layout.{Endpoint}
use Rattle.big_info.specs.declared.info.Cipher.{Cipher}
use Rattle.isoal_framed.specs.Calls.{accept as accept_timed}
use Rattle.source_machine.specs.declared.sent.Sent.{Sent}
use Rattle.source_machine.specs.declared.setup.Identity.{Identity}
use Rattle.source_machine.proofs.Advances.{IsNext, is_next, streams_next}
use Rattle.source_machine.proofs.FramedCalls.{timed_other, timed_same}
use Rattle.source_machine.proofs.Framings.{air_at, airs_only}
use Rattle.source_machine.proofs.Histories.{given_other, given_same}
use Rattle.source_machine.proofs.Sending.{event_sends, gathered_count}

pub stands_new : (setup : Setup) (streams : List Stream) → ((k : ℕ) (none : Stream) → k < length streams → StreamStands setup.info (k + 1) [] [] (get_or streams k none))
    → (identity : Identity) (base : Endpoint) (cipher : Option Cipher)
    → StandsFor [] (record { identity = identity; base = base; cipher = cipher; setup = setup; next = setup.first; streams = streams; failed = false })
stands_new setup streams are identity base cipher = record { next = omega arith; streams = are; works = refl }

-- one stream more
pub one_more_stream : (info : BigInfo) (bis n : ℕ) (old new : List Stream) (stream : Stream) → length old ≡ n
    → ((k : ℕ) (none : Stream) → k < n → StreamStands info (k + 1) [] [] (get_or old k none)) → new ≡ old ++ stream ∷ [] → bis ≡ n + 1
    → StreamStands info bis [] [] stream
    → (length new ≡ n + 1) × ((k : ℕ) (none : Stream) → k < n + 1 → StreamStands info (k + 1) [] [] (get_or new k none))
one_more_stream info bis n old new stream count each is at stands =
    grind (arith, length, length-append, cases_lt, get_or_append_left, get_or-append_right)

pub stands_event : (source : Source) (calls : List Call) (laying : Laying) (new : List Stream) → IsChecked source.setup.info → StandsFor calls source → LaysNext source laying
    → AllZip (Lays laying.anchor laying.iso_us laying.count) source.streams new
    → StandsFor (event ∷ calls) (record source { next = source.next + 1; streams = new })
stands_event source calls laying new checked stands next laid = record {
  next = omega (arith, stands.next);
  streams = streams_next source.setup calls laying source.streams new checked (is_next source calls laying stands.next next) laid stands.streams;
  works = stands.works;
}

-- a stream of the source
pub stream_is : (source : Source) (calls : List Call) (bis : ℕ) (stream : Stream) → StandsFor calls source
    → 1 ≤ bis → bis ≤ length source.streams → stream ≡ get_or source.streams (bis - 1) stream → StreamIs source.setup calls bis stream
stream_is source calls bis stream stands least within is = grind (arith, get_or)

given_is : (setup : Setup) (calls : List Call) (bis : ℕ) (time : Option ℕ) (octets : List ℕ) (stream : Stream)
    → StreamStands setup.info bis (accept octets ∷ stream_calls setup.info bis calls) (accept_timed (unwrap_or time 0) octets ∷ framed_calls setup bis calls) stream
    → StreamIs setup (give bis time octets ∷ calls) bis stream
given_is setup calls bis time octets stream stands = grind (arith, stream_calls, give, timed_same, unwrap_or, framed_calls, given_same)

other_is : (setup : Setup) (calls : List Call) (bis index : ℕ) (time : Option ℕ) (octets : List ℕ) (stream : Stream) → (bis ≡ index → ⊥)
    → StreamIs setup calls index stream → StreamIs setup (give bis time octets ∷ calls) index stream
other_is setup calls bis index time octets stream other stands = grind (arith, stream_calls, give, timed_other, framed_calls, given_other)

pub stands_give : (source : Source) (calls : List Call) (bis : ℕ) (time limit : Option ℕ) (octets : List ℕ) (old new : Stream) → StandsFor calls source
    → 1 ≤ bis → bis ≤ length source.streams → old ≡ get_or source.streams (bis - 1) old → Accepts time limit octets old new
    → StandsFor (give bis time octets ∷ calls) (record source { streams = set source.streams (bis - 1) new })
stands_give source calls bis time limit octets old new stands least within is accepts =
    let setup = source.setup in
    record {
      next = stands.next;
      streams = λ k none below.
          let long : length (set source.streams (bis - 1) new) ≡ length source.streams = length-set source.streams (bis - 1) new in
          elim (cases_eq k (bis - 1)) [
            | inl here ↦
                let at : bis ≡ k + 1 = omega (arith, least, here) in
                subst (λ b. StreamIs setup (give bis time octets ∷ calls) b (get_or (set source.streams (bis - 1) new) k none)) at
                (rw (here, get_or-set_same source.streams (bis - 1) new none (omega arith)) (given_is setup calls bis time octets new
                (accepts.stands setup.info bis (stream_calls setup.info bis calls) (framed_calls setup bis calls) (stream_is source calls bis old stands least within is))))
            | inr other ↦ rw (get_or-set_other source.streams (bis - 1) k new none other)
                (other_is setup calls bis (k + 1) time octets (get_or source.streams k none) (λ e. other (omega (arith, e, least))) (stands.streams k none (omega arith)))
          ];
      works = stands.works;
    }

-- what the streams tell of an event is what its airs left out
told_is : (setup : Setup) (calls : List Call) (laying : Laying) (streams : List Stream) (stale : List Stale) → IsChecked setup.info → IsNext setup calls laying
    → length streams ≡ setup.info.num_bis → StreamsAre setup calls streams
    → AllTell laying.anchor laying.iso_us laying.count streams (length streams) [] stale → stale ≡ stale_of setup calls (airs_of setup (event ∷ calls))
told_is setup calls laying streams stale checked next long are tells =
    let f : ℕ → List Stale = told_by setup calls laying.anchor laying.iso_us laying.count in
    let g : ℕ → List Stale = λ bis. stale_on bis (stale_in (laid_with setup.info calls) (unwrap_or (slice_get (airs_of setup (event ∷ calls)) (bis - 1)) [])) in
    tells setup calls checked are ∙ ap (λ n. flat_map f (range_with_len 1 n)) long
    ∙ flat_same f g 1 setup.info.num_bis (grind (arith, told_by, laid_with, lay_anchor, laid_before, stale_on, stale_in, unwrap_or, air_at, event))

-- the next event was performed, where each stream laid these events
pub advances : (source : Source) (laying : Laying) (new : List Stream) (stale : List Stale) → IsSource source → IsChecked source.setup.info
    → LaysNext source laying → AllZip (Lays laying.anchor laying.iso_us laying.count) source.streams new
    → AllTell laying.anchor laying.iso_us laying.count source.streams (length source.streams) [] stale
    → Advances source (record source { next = source.next + 1; streams = new }) stale
advances source laying new stale is checked next laid tells = record {
  next = refl;
  failed = refl;
  stands = λ calls stands. stands_event source calls laying new checked stands next laid;
  told = λ calls airs stands are.
      told_is source.setup calls laying source.streams stale checked (is_next source calls laying stands.next next) is.streams stands.streams tells
      ∙ ap (stale_of source.setup calls) (sym (airs_only source.setup (event ∷ calls) airs checked are));
}

-- and it sends what is gathered from them
pub performs : (source : Source) (laying : Laying) (new : List Stream) (pdus : List (List ℕ)) (stale : List Stale) → IsSource source → IsChecked source.setup.info
    → LaysNext source laying → AllZip (Lays laying.anchor laying.iso_us laying.count) source.streams new
    → AllTell laying.anchor laying.iso_us laying.count source.streams (length source.streams) [] stale
    → map Some pdus ≡ map (sent_at source.setup.info new) (range_with_len 0 (source.setup.info.num_bis * source.setup.info.nse))
    → (let sent : Sent = record { event = source.next; pdus = pdus; stale = stale } in Performs source (record source { next = source.next + 1; streams = new }) sent)
performs source laying new pdus stale is checked next laid tells gathered =
    let counted = advances source laying new stale is checked next laid tells in
    record {
      is_next = refl;
      next = refl;
      failed = refl;
      count = gathered_count (sent_at source.setup.info new) pdus (source.setup.info.num_bis * source.setup.info.nse) gathered;
      stands = counted.stands;
      sends = λ calls airs stands are.
          let after = stands_event source calls laying new checked stands next laid in
          let long : length new ≡ source.setup.info.num_bis =
          sym (length_all_zip (Lays laying.anchor laying.iso_us laying.count) source.streams new laid) ∙ is.streams in
          subst (λ list. Sends source.setup list source.next pdus) (sym (airs_only source.setup (event ∷ calls) airs checked are))
          (subst (λ at. Sends source.setup (airs_of source.setup (event ∷ calls)) at pdus) (omega (arith, stands.next))
          (event_sends source.setup (event ∷ calls) new pdus checked.bounds.bn checked.bounds.whole_groups (omega arith) long after.streams gathered));
      told = counted.told;
    }

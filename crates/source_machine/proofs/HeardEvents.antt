-- What is heard of the events that a source performed last.
use Rattle.source_machine.proofs.Prelude.{ℕ, ◌≡◌, ◌<◌, ◌≤◌, ◌-◌, Some, None, List, get_or, arith, ◌∙◌, ap, refl, le-ltb, lt-leb, Air, AreAirs, pdu_of, Call, events, next_of, air_fault, IsChecked, Source, StandsFor, Stream, IsSource, sent_of}
use Rattle.source_machine.proofs.Framings.{airs_only}
use Rattle.source_machine.proofs.Payloads.{ahead_within, sent_is}
use Rattle.source_machine.proofs.Standing.{stream_is}

-- the PDU that a stream keeps at a place on the air is the one that the event sent there
pub heard : (source : Source) (calls : List Call) (airs : List Air) (back bis subevent : ℕ) (stream : Stream) (pdu : List ℕ)
    → IsSource source → IsChecked source.setup.info → StandsFor calls source → AreAirs source.setup calls airs → 1 ≤ bis
    → bis ≤ source.setup.info.num_bis → subevent < source.setup.info.nse → back < source.next - source.setup.first → back ≤ 31
    → stream ≡ get_or source.streams (bis - 1) stream → sent_of stream back subevent ≡ Some pdu
    → (air_fault source.setup calls back bis subevent ≡ None) × (pdu_of source.setup airs (next_of source.setup calls - 1 - back) bis subevent ≡ Some pdu)
heard source calls airs back bis subevent stream pdu is checked stands are least within below some near at sent =
    let setup = source.setup in
    let performed : back < events calls = omega (arith, stands.next, some) in
    let own = stream_is source calls bis stream stands least (omega (arith, within, is.streams)) at in (
      rw (le-ltb setup.info.num_bis bis within, lt-leb setup.info.nse subevent below, lt-leb (events calls) back performed) refl,
      ap (λ list. pdu_of setup list (next_of setup calls - 1 - back) bis subevent) (airs_only setup calls airs checked are)
          ∙ sent_is setup calls back bis subevent stream pdu checked.bounds.bn least within performed (omega arith)
          (ahead_within setup.info subevent checked.bounds.bn checked.bounds.whole_groups below) own sent,
    )

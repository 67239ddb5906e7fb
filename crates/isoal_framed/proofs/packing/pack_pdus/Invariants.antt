use Rattle.isoal_framed.proofs.Prelude.{◌≡◌, ◌≤◌, List, [], length, drop, pdus_ended, Timed, Act, done, Going, IsPartly}
use Rattle.isoal_framed.proofs.Packings.{EndsWhole}
use Rattle.isoal_framed.proofs.packing.pack_pdus.Given as goal

abbrev pub invariant-pdus : goal.invariant-pdus
invariant-pdus l = record {
  within : l.packing.past ≤ length l.queue.items;
  partly : IsPartly l.packing.sent (drop l.packing.past l.queue.items);
  count : length l.pdus ≡ l.counter;
  going : (units : List Timed) → (earlier : List Act) → l.queue.items ≡ drop (done earlier) units
      → Going l.group.info.max_pdu units l.anchor earlier [] l.initial.packing.past l.initial.packing.sent l.group.info.max_pdu [] [] l.initial.packing.stale
      → (own : List Act) × (pdus_ended own ≡ l.counter) × EndsWhole own
      × Going l.group.info.max_pdu units l.anchor earlier own l.packing.past l.packing.sent l.group.info.max_pdu [] l.pdus l.packing.stale;
}

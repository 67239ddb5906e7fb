use Rattle.isoal_framed.proofs.Prelude.{ℕ, ◌≡◌, ◌≤◌, ◌+◌, ◌-◌, List, [], length, drop, room_in, pdus_ended, Timed, Act, done, Going, IsPartly}
use Rattle.isoal_framed.proofs.Packings.{At}
use Rattle.isoal_framed.proofs.packing.pack_pdu.Given as goal

abbrev pub invariant-acts : goal.invariant-acts
invariant-acts l = record {
  within : l.packing.past ≤ length l.queue.items;
  partly : IsPartly l.packing.sent (drop l.packing.past l.queue.items);
  going : (units : List Timed) → (earlier acts : List Act) → (pdus : List (List ℕ)) → l.queue.items ≡ drop (done earlier) units
      → Going l.max_pdu units l.anchor earlier acts l.initial.packing.past l.initial.packing.sent l.max_pdu [] pdus l.initial.packing.stale
      → (own : List Act) × (pdus_ended own ≡ pdus_ended acts) × At l.max_pdu units l.anchor earlier own pdus l.packing;
}

abbrev pub decreases-acts : goal.decreases-acts
decreases-acts l = length l.queue.items - l.packing.past + room_in l.packing.pdu

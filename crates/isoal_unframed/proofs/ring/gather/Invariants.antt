use Rattle.isoal_unframed.proofs.Prelude.{◌≡◌, ◌≤◌, ◌*◌, take, drop, kept_in, unit_after, unit_of}
use Rattle.isoal_unframed.proofs.ring.gather.Given as goal

abbrev pub invariant-places : goal.invariant-places
invariant-places l = record {
  place : l.from ≡ l.cell-index * l.max_pdu;
  together : l.len ≤ l.from;
  unit : unit_after l.max_sdu (take l.len l.block) (kept_in l.max_pdu (drop l.cell-index l.cells) (drop l.from l.block))
      ≡ unit_of l.max_sdu (kept_in l.max_pdu l.cells l.initial.block);
}

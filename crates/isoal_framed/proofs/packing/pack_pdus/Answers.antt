use Rattle.isoal_framed.proofs.Prelude.{◌≡◌, ◌∙◌, ◌∷◌, [], List, inr, refl, arith, pdus_ended, Act, ends, Going}
use Rattle.isoal_framed.proofs.Packings.{EndsWhole}
use Rattle.isoal_framed.proofs.packing.pack_pdus.Goals as goal

pub pdus-preserved : goal.pdus-preserved
pdus-preserved c = record {
  within = c.pack_pdu.ensures.within;
  partly = c.pack_pdu.ensures.partly;
  count = omega (arith, c.in_ok-pack_pdu.ensures.count, c.pdus.invariant.count);
  going = λ units earlier queue_is start. (let was : (own : List Act) × (pdus_ended own ≡ c.pdus.counter) × EndsWhole own
      × Going c.args.group.now.info.max_pdu units c.args.anchor earlier own c.pdus.packing.past c.pdus.packing.sent c.args.group.now.info.max_pdu [] c.pdus.pdus c.pdus.packing.stale =
      c.pdus.invariant.going units earlier queue_is start in
      let more : (own : List Act) × (pdus_ended own ≡ pdus_ended was.0)
      × Going c.args.group.now.info.max_pdu units c.args.anchor earlier (ends ∷ own) c.pack_pdu.new.packing.past c.pack_pdu.new.packing.sent c.args.group.now.info.max_pdu []
      c.pack_pdu.new.pdus c.pack_pdu.new.packing.stale = c.in_ok-pack_pdu.ensures.packed units earlier was.0 queue_is was.3 in (
        ends ∷ more.0,
        (let same : pdus_ended more.0 ≡ c.pdus.counter = more.1 ∙ was.1 in omega arith),
        inr (more.0, refl),
        more.2,
      ));
}

use Rattle.isoal_unframed.proofs.Prelude.{ap, ◌∙◌, ◌≡◌, ◌<◌, ◌≤◌, ◌+◌, ◌-◌, ◌*◌, length, set, sym, refl, subst, Some, arith, kept_in, part_of}
use Rattle.isoal_unframed.proofs.Kept.{set-kept}
use Rattle.isoal_unframed.proofs.Places.{slot_fits}
use Rattle.isoal_unframed.proofs.Vecs.{mid_is}
use Rattle.isoal_unframed.proofs.ring.Ring.put.Goals as goal

pub returns-clause-kept : goal.returns-clause-kept
returns-clause-kept c =
    let octets : length c.args.self.now.block.items ≡ length c.args.self.now.cells.items * c.args.self.now.max_pdu =
    sym c.args.self.now.block.ok.0 ∙ c.args.self.now.octets ∙ ap (λ n. n * c.args.self.now.max_pdu) c.args.self.now.cells.ok.0 in
    let below : c.args.place < length c.args.self.now.cells.items = subst (λ n. c.args.place < n) c.args.self.now.cells.ok.0 c.requires.place in
    let fits : c.args.place * c.args.self.now.max_pdu + c.args.self.now.max_pdu ≤ length c.args.self.now.cells.items * c.args.self.now.max_pdu =
    slot_fits c.args.place (length c.args.self.now.cells.items) c.args.self.now.max_pdu below in
    let size : c.args.self.now.block.len ≡ length c.args.self.now.block.items = c.args.self.now.block.ok.0 in
    let start : c.args.place * c.from.result ≡ c.args.place * c.args.self.now.max_pdu = ap (λ m. c.args.place * m) c.from.ensures in
    let many : c.args.place * c.from.result + length c.args.part.now - c.args.place * c.from.result ≡ length c.args.part.now = omega arith in
    let within : c.args.place * c.from.result + length c.args.part.now ≤ c.args.self.now.block.len = omega (arith, c.requires.part) in
    ap (kept_in c.args.self.now.max_pdu (set c.args.self.now.cells.items c.args.place c.cell_of.result)) (grind (arith, mid_is))
    ∙ set-kept c.args.self.now.max_pdu c.args.place c.args.self.now.cells.items c.args.self.now.block.items c.args.part.now c.cell_of.result
    (Some (part_of c.args.is_end c.args.part.now)) c.args.self.now.within below octets c.requires.part
    (λ rest. c.cell_of.ensures.reads c.args.part.now rest refl)

use Rattle.isoal_unframed.proofs.Prelude.{ℕ, ◌≡◌, ◌≤◌, ◌<◌, ◌+◌, ◌*◌, length, vec_len, take, drop, get_or, cond, leb, Some, None, subst, sym, ap, ◌∙◌, arith, get_or_default, Empty, End, unit_of, kept_of, octets_at, Cell, Ring}
use Rattle.isoal_unframed.proofs.Kept.{end_first}
use Rattle.isoal_unframed.proofs.ring.Ring.count_unit.Goals as goal

-- a slot whose first place has an end has the unit of that part
unit_is : (ring : Ring) (first places max_sdu part : ℕ) (cell : Cell) → 0 < places → first + places ≤ vec_len ring.cells
    → get_or ring.cells.items first cell ≡ End part
    → unit_of max_sdu (take places (drop first (kept_of ring))) ≡ cond (leb part max_sdu) (Some (octets_at ring first part)) None
unit_is ring first places max_sdu part cell some within is =
    let below : first < length ring.cells.items = subst (λ n. first < n) ring.cells.ok.0 (omega arith) in
    let room : length ring.block.items ≡ length ring.cells.items * ring.max_pdu =
    sym ring.block.ok.0 ∙ ring.octets ∙ ap (λ n. n * ring.max_pdu) ring.cells.ok.0 in
    end_first ring.max_pdu max_sdu first places part ring.cells.items ring.block.items ring.within below some
    (get_or_default ring.cells.items first Empty cell below ∙ is) room

pub returns-then-count-max_sdu-clause-unit : goal.returns-then-count-max_sdu-clause-unit
returns-then-count-max_sdu-clause-unit c =
    let is : get_or c.args.self.now.cells.items c.args.first c.index.result.now ≡ End c.in-End.part = grind arith in
    let unit = unit_is c.args.self.now c.args.first c.args.places c.args.max_sdu c.in-End.part c.index.result.now
    c.requires.some c.requires.within is in
    grind (arith, unit)

pub returns-else-count-max_sdu-clause-unit : goal.returns-else-count-max_sdu-clause-unit
returns-else-count-max_sdu-clause-unit c =
    let is : get_or c.args.self.now.cells.items c.args.first c.index.result.now ≡ End c.in-End.part = grind arith in
    let unit = unit_is c.args.self.now c.args.first c.args.places c.args.max_sdu c.in-End.part c.index.result.now
    c.requires.some c.requires.within is in
    grind (arith, unit)

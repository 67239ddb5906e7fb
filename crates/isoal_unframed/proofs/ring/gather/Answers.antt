use Rattle.isoal_unframed.proofs.Prelude.{◌≤◌, ◌∙◌, sym, arith, Fragment, drop_more}
use Rattle.std.proofs.lemmas.List.{length-append, length-take, length-drop}
use Rattle.isoal_unframed.proofs.Kept.{gather_more, cell_fits, place_room, end_room}
use Rattle.isoal_unframed.proofs.ring.gather.Goals as goal

pub places-preserved : goal.places-preserved
places-preserved c =
    let fits : c.in-Fragment.part ≤ c.args.max_pdu =
    cell_fits c.args.max_pdu c.places.cell-index c.args.cells.now (Fragment c.in-Fragment.part) c.requires.within c.places-test.true c.in-Fragment.is in
    let fits_count : c.from-count.result ≤ c.args.max_pdu = omega arith in
    record {
      place = omega arith;
      together = omega arith;
      unit = gather_more c.args.max_pdu c.args.max_sdu c.places.len c.places.from c.from-count.result c.in-Fragment.part c.places.cell-index
          c.args.cells.now c.places.block c.move_down.new.block c.places-test.true c.in-Fragment.is c.from-count.ensures
          fits_count c.places.invariant.together (grind (arith, place_room)) c.move_down.ensures.octets ∙ c.places.invariant.unit;
    }

pub returns-in-Empty-clause-unit : goal.returns-in-Empty-clause-unit
returns-in-Empty-clause-unit c = sym c.places.invariant.unit ∙ grind (arith, drop_more)

pub returns-else-len-max_sdu-clause-unit : goal.returns-else-len-max_sdu-clause-unit
returns-else-len-max_sdu-clause-unit c =
    let room = end_room c.args.max_pdu c.places.cell-index c.in-End.part c.args.cells.now c.places.block c.requires.within c.places-test.true c.in-End.is (omega (arith, c.requires.room)) in
    sym c.places.invariant.unit ∙ grind (arith, drop_more, length-append, length-take, length-drop)

use Rattle.std.proofs.Common.{arith, length, reverse, ◌-◌}
use Rattle.std.proofs.lemmas.List.{get_or-reverse, length-reverse}
use Rattle.std.proofs.lemmas.Option.{slice_get-get_or}
use Rattle.unit_outlets.proofs.last_units.LastUnits.last.Goals as goal

pub returns : goal.returns
returns c =
    let items = c.self.inside.units.items in
    let a = slice_get-get_or (reverse items) c.args.i c.as_slice.result.now in
    let b = get_or-reverse items c.args.i c.as_slice.result.now in
    let d = slice_get-get_or items (length items - c.args.i - 1) c.as_slice.result.now in
    grind (arith, length-reverse)

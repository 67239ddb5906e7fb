use Rattle.isoal_framed.proofs.Prelude.{sym, arith}
use Rattle.isoal_framed.proofs.Packings.{placed_by, partly_at, partly_left, part_left, part_within}
use Rattle.isoal_framed.proofs.packing.put_next.Goals as goal

pub returns-in_ok-push-in-LeavesOut-clause-placed : goal.returns-in_ok-push-in-LeavesOut-clause-placed
returns-in_ok-push-in-LeavesOut-clause-placed c = grind (arith, placed_by)

pub returns-in-Carries-clause-partly : goal.returns-in-Carries-clause-partly
returns-in-Carries-clause-partly c = partly_left c.args.anchor c.args.queue.now.items c.args.packing.now c.carry.new.packing c.in-Some.unit.now c.in-Carries.count c.in-Carries.complete (sym c.in-Some.ensures.item) c.carry.ensures (part_left c.args.anchor c.room-room.result c.args.packing.now.sent c.in-Some.unit.now c.in-Carries.count c.in-Carries.complete (partly_at c.args.queue.now.items c.args.packing.now.past c.args.packing.now.sent c.requires.partly c.in-Some.unit.now (sym c.in-Some.ensures.item)) c.in-Carries.ensures)

pub returns-in-Carries-clause-placed : goal.returns-in-Carries-clause-placed
returns-in-Carries-clause-placed c = grind (arith, placed_by)

pub carry-requires-clause-within : goal.carry-requires-clause-within
carry-requires-clause-within c = part_within c.args.anchor c.room-room.result c.args.packing.now.sent c.in-Some.unit.now c.in-Carries.count c.in-Carries.complete (partly_at c.args.queue.now.items c.args.packing.now.past c.args.packing.now.sent c.requires.partly c.in-Some.unit.now (sym c.in-Some.ensures.item)) c.in-Carries.ensures

use Rattle.delegator_control.proofs.Prelude.{◌∙◌, ap, sym, Snapshot, slot_of, placed, Machine, machine, place_by, arith}
use Rattle.delegator_control.proofs.Changes.{moves_below}
use Rattle.delegator_control.proofs.scan_delegator.ScanDelegator.go.Goals as goal

pub returns-clause-step : goal.returns-clause-step
returns-clause-step c = grind (arith, machine, placed, place_by)

pub invariant_of-self-clause-within : goal.invariant_of-self-clause-within
invariant_of-self-clause-within c slot is =
    let mid : Machine = machine c.note_move.new.self in
    moves_below mid.snapshot c.args.moves mid.setup.slots c.note_move.new.self.within slot (sym (ap (λ (s : Snapshot). slot_of s.place) (c.make_move.ensures mid.snapshot)) ∙ is)

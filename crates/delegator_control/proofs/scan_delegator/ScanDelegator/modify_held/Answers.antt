use Rattle.delegator_control.proofs.Prelude.{◌≡◌, ◌<◌, ◌∙◌, length, get_or, ap, sym, subst, Some, None, get_or_read_under, Snapshot, entry_at, slot_of, modified, place_given, placed, value_at, held_slot, Machine, machine, place_by, written_value, arith}
use Rattle.delegator_choices.specs.State.Slots.{entry}
use Rattle.delegator_control.proofs.Changes.{moves_below, none_some}
use Rattle.delegator_control.proofs.Serving.{wanted_by, modify_refused, modify_accepted, puts_no, puts_yes, same_rest}
use Rattle.delegator_control.proofs.scan_delegator.ScanDelegator.modify_held.Goals as goal

pub unreachable-requires : goal.unreachable-requires
unreachable-requires c = grind (arith, machine, length, get_or, get_or_read_under, held_slot, none_some)

pub returns-then-not-fits : goal.returns-then-not-fits
returns-then-not-fits c =
    let m : Machine = machine c.args.self.now in
    let there : c.args.slot < length m.snapshot.slots = subst (λ n. c.args.slot < n) c.args.self.now.slots.ok.0 c.requires.within in
    let below : c.from.result < m.setup.slots = subst (λ k. k < m.setup.slots) (sym c.from.ensures) c.requires.within in
    let read : c.index.result.now ≡ get_or m.snapshot.slots c.args.slot None = grind (arith, get_or_read_under, get_or) in
    let held : entry_at m.snapshot.slots c.args.slot ≡ Some c.in-Some.held = sym read ∙ c.in-Some.is in
    let filled : c.new-filled.result ≡ record c.in-Some.held { wanted = wanted_by c.args.modify } =
    c.new-filled.ensures ∙ ap (λ source. entry source c.args.modify.pa_sync c.args.modify.wishes) c.source.ensures.same in
    let same : place_by m.snapshot.place c.move_wanted-moves.result ≡ place_given m.snapshot (modified c.args.slot (wanted_by c.args.modify)) = c.move_wanted-moves.ensures m.snapshot held in
    let puts = puts_no (written_value c.args.slot c.new-filled.result c.move_wanted-moves.result c.args.self.now) c.args.slot c.new-filled.result (value_at m.snapshot c.args.slot)
    m.snapshot.slots c.put.new.self.slots.items m.waiting c.put.new.self.waiting.items c.in_ok-fits.fits c.if-not-fits.true c.in_ok-fits.ensures.puts in
    modify_refused m (machine c.put.new.self) c.args.modify c.args.slot c.in-Some.held c.move_wanted-moves.result c.new-filled.result c.refused.result
    c.requires.found there held same filled puts.0
    (same_rest m (machine c.put.new.self) c.put.new.self.slots.items c.put.new.self.waiting.items c.in_ok-fits.ensures.rest puts.1 puts.2) c.refused.ensures

pub returns : goal.returns
returns c =
    let m : Machine = machine c.args.self.now in
    let there : c.args.slot < length m.snapshot.slots = subst (λ n. c.args.slot < n) c.args.self.now.slots.ok.0 c.requires.within in
    let below : c.from.result < m.setup.slots = subst (λ k. k < m.setup.slots) (sym c.from.ensures) c.requires.within in
    let read : c.index.result.now ≡ get_or m.snapshot.slots c.args.slot None = grind (arith, get_or_read_under, get_or) in
    let held : entry_at m.snapshot.slots c.args.slot ≡ Some c.in-Some.held = sym read ∙ c.in-Some.is in
    let filled : c.new-filled.result ≡ record c.in-Some.held { wanted = wanted_by c.args.modify } =
    c.new-filled.ensures ∙ ap (λ source. entry source c.args.modify.pa_sync c.args.modify.wishes) c.source.ensures.same in
    let same : place_by m.snapshot.place c.move_wanted-moves.result ≡ place_given m.snapshot (modified c.args.slot (wanted_by c.args.modify)) = c.move_wanted-moves.ensures m.snapshot held in
    let puts = puts_yes (written_value c.args.slot c.new-filled.result c.move_wanted-moves.result c.args.self.now) c.args.slot c.new-filled.result (value_at m.snapshot c.args.slot)
    m.snapshot.slots c.put.new.self.slots.items m.waiting c.put.new.self.waiting.items c.in_ok-fits.fits c.if-not-fits.false c.in_ok-fits.ensures.puts in
    let mid : Machine = machine c.put.new.self in
    modify_accepted m _ c.args.modify c.args.slot c.in-Some.held c.move_wanted-moves.result c.new-filled.result c.put.new.self.slots.items c.put.new.self.waiting.items
    c.requires.found c.requires.within there held same filled puts.0 (grind (arith, placed, place_by)) puts.1 puts.2

pub invariant_of-self-2 : goal.invariant_of-self-2
invariant_of-self-2 c =
    let mid : Machine = machine c.put.new.self in
    record {
      reach = c.put.new.self.reach;
      few = c.put.new.self.few;
      within = λ slot is. moves_below mid.snapshot c.move_wanted-moves.result mid.setup.slots c.put.new.self.within slot (sym (ap (λ (s : Snapshot). slot_of s.place) (c.make_move.ensures mid.snapshot)) ∙ is);
    }

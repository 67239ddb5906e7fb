use Rattle.scenario_sink.proofs.Prelude.{◌≡◌, ◌++◌, ◌∙◌, refl, ap, arith, concat, flat_map, range_with_len, slot_lines}
use Rattle.scenario_sink.proofs.Calls.{slots_there}
use Rattle.scenario_sink.proofs.Printing.{nothing_put, slot_put}
use Rattle.scenario_sink.proofs.sink.LinkedSink.show_slots.Goals as goal

pub each-init : goal.each-init
each-init c = record { slots = refl; within = omega arith; shown = λ history lives. (lives, nothing_put c.args.text.now) }

pub show_slot-requires : goal.show_slot-requires
show_slot-requires c = let same = c.each.invariant.slots in omega (arith, same)

pub each-preserved : goal.each-preserved
each-preserved c = record {
  slots = c.show_slot.ensures.slots ∙ c.each.invariant.slots;
  within = omega arith;
  shown = λ history lives.
      let before = c.each.invariant.shown history lives in
      let shown = c.in_ok-show_slot.ensures.shows history before.0 in
      (shown.0, slot_put (slot_lines c.args.sink history) c.each.slot c.args.text.now c.each.text c.show_slot.new.text before.1 shown.1);
}

pub returns : goal.returns
returns c history lives =
    let old = c.args.self.now in
    let count : history.made.setup.slots ≡ old.slots = slots_there history old.delegator old.links old.slots lives.stands old.fits in
    let within = c.each.invariant.within in
    let all : c.each.slot ≡ history.made.setup.slots = omega (arith, count, within) in
    let shown = c.each.invariant.shown history lives in
    (shown.0, shown.1 ∙ ap (λ n. c.args.text.now ++ concat (flat_map (slot_lines c.args.sink history) (range_with_len 0 n))) all)

use Rattle.scenario_sink.proofs.Prelude.{◌≡◌, ◌++◌, ◌∷◌, [], ◌∙◌, List, ℕ, map, refl, ap, arith, concat, range_with_len, codes, decimal, viewed, value_line}
use Rattle.scenario_sink.proofs.Calls.{slots_there}
use Rattle.scenario_sink.proofs.Printing.{nothing_put, view_put}
use Rattle.scenario_sink.proofs.sink.LinkedSink.show_views.Goals as goal

pub each-init : goal.each-init
each-init c = record { slots = refl; within = omega arith; shown = λ history lives on. (lives, nothing_put c.args.text.now) }

pub show_view-requires : goal.show_view-requires
show_view-requires c = let same = c.each.invariant.slots in omega (arith, same)

pub each-preserved : goal.each-preserved
each-preserved c = record {
  slots = c.show_view.ensures.slots ∙ c.each.invariant.slots;
  within = omega arith;
  shown = λ history lives on.
      let before = c.each.invariant.shown history lives on in
      let shown = c.in_ok-show_view.ensures.shows history before.0 on in (
        shown.0,
        grind (arith, view_put, value_line, codes, decimal, viewed),
      );
}

pub returns : goal.returns
returns c history lives on =
    let old = c.args.self.now in
    let count : history.made.setup.slots ≡ old.slots = slots_there history old.delegator old.links old.slots lives.stands old.fits in
    let within = c.each.invariant.within in
    let all : c.each.slot ≡ history.made.setup.slots = omega (arith, count, within) in
    let shown = c.each.invariant.shown history lives on in
    let line : ℕ → List ℕ = λ slot. value_line (codes "aview") (decimal c.args.sink ∷ decimal c.args.link ∷ []) (viewed history.made c.args.link history.calls_made slot) in
    (shown.0, shown.1 ∙ ap (λ n. c.args.text.now ++ concat (map line (range_with_len 0 n))) all)

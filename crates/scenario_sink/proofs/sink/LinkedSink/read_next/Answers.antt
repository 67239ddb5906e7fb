use Rattle.scenario_sink.proofs.Prelude.{◌≡◌, ◌<◌, ◌∷◌, [], List, ℕ, Some, option_map, slice_get, refl, sym, ◌∙◌, ap, subst, arith, is_none, err_from_is_err_and, value_at, stated, was_read, label_of, value_line, Takes}
use Rattle.assistant_machine.specs.Calls.{read}
use Rattle.scenario_sink.proofs.Calls.{Here, here, its_assistant, kept, no_read, reads_one, slot_there, slots_there, which_read}
use Rattle.scenario_sink.proofs.Shown.{with_value}
use Rattle.scenario_sink.proofs.Turning.{its_line}
use Rattle.scenario_sink.proofs.Untold.{its_snapshot}
use Rattle.scenario_sink.proofs.sink.LinkedSink.read_next.Goals as goal

pub returns-in_default : goal.returns-in_default
returns-in_default c history lives on =
    let old = c.args.self.now in
    let h : Here c.args.link history old.links = here c.args.link history old.delegator old.links lives.stands on in
    let none = c.in_default.ensures.none h.on.assistant (its_assistant c.args.link history old.links h) in (
      ap (λ (reads : List ℕ). is_none (slice_get reads 0)) (no_read c.args.link history old.links h none.0),
      (record { stands = kept c.args.link history old.delegator old.links _ lives.stands on none.1; source_is = lives.source_is }, refl),
    )

pub returns-then-slot-self : goal.returns-then-slot-self
returns-then-slot-self c history lives on =
    let old = c.args.self.now in
    let h : Here c.args.link history old.links = here c.args.link history old.delegator old.links lives.stands on in
    let some = c.in-Some.ensures.some h.on.assistant (its_assistant c.args.link history old.links h) in
    let within : c.in-Some.slot < history.made.setup.slots = slot_there c.args.link history old.links h c.in-Some.slot some.0 in
    let same : history.made.setup.slots ≡ old.slots = slots_there history old.delegator old.links old.slots lives.stands old.fits in
    absurd (omega (arith, within, same, c.if-slot-self.true))

pub returns : goal.returns
returns c history lives on =
    let old = c.args.self.now in
    let took = lives.stands.took in
    let h : Here c.args.link history old.links = here c.args.link history old.delegator old.links lives.stands on in
    let some = c.in-Some.ensures.some h.on.assistant (its_assistant c.args.link history old.links h) in
    let first = which_read c.args.link history old.links h c.in-Some.slot some.0 in
    let few : history.made.setup.slots < 256 =
    let same : history.made.setup.slots ≡ old.slots = slots_there history old.delegator old.links old.slots lives.stands old.fits in omega (arith, same, old.few) in
    let value = c.in_ok-value.ensures.value history.made.setup took.taken took.stands ∙ ap (λ s. value_at s c.in-Some.slot) (its_snapshot history old.delegator old.links took) in
    let answer = ap (λ (octets : List ℕ). Some (with_value c.in-Some.slot octets)) value ∙ ap (option_map (stated history.made history.calls_made)) (sym first) in (
      ap is_none first,
      (
        record {
          stands = reads_one c.links_law.ensures.apart c.a_read_gives_the_state.ensures c.args.link c.in-Some.slot c.in_ok-value.value history old.delegator old.links c.next_read.new.links _
              lives.stands on few some.0 value some.1
              (λ before is. subst (λ octets. Takes (read c.in-Some.slot octets ∷ []) c.args.link before c.next_read.new.links c.take_value.new.links) c.as_slice.ensures
              (c.in_ok-take_value.ensures before is));
          source_is = lives.source_is;
        },
        its_line (value_line (label_of c.args.label).read (label_of c.args.label).numbers) (was_read history.made c.args.link history.calls_made)
            (with_value c.in-Some.slot c.in_ok-value.value) c.args.text.now c.put_read.new.text answer c.in_ok-put_read.ensures,
      ),
    )

pub returns-in_err-value : goal.returns-in_err-value
returns-in_err-value c history lives on =
    let old = c.args.self.now in
    let h : Here c.args.link history old.links = here c.args.link history old.delegator old.links lives.stands on in
    let some = c.in-Some.ensures.some h.on.assistant (its_assistant c.args.link history old.links h) in
    let p = err_from_is_err_and c.from_residual.result c.from_residual.ensures.1 in
    rw p.1 (ap is_none (which_read c.args.link history old.links h c.in-Some.slot some.0))

pub returns-in_err-take_value : goal.returns-in_err-take_value
returns-in_err-take_value c history lives on =
    let old = c.args.self.now in
    let h : Here c.args.link history old.links = here c.args.link history old.delegator old.links lives.stands on in
    let some = c.in-Some.ensures.some h.on.assistant (its_assistant c.args.link history old.links h) in
    let p = err_from_is_err_and c.from_residual-in_err-take_value.result c.from_residual-in_err-take_value.ensures.1 in
    rw p.1 (ap is_none (which_read c.args.link history old.links h c.in-Some.slot some.0))

pub returns-in_err-put_read : goal.returns-in_err-put_read
returns-in_err-put_read c history lives on =
    let old = c.args.self.now in
    let h : Here c.args.link history old.links = here c.args.link history old.delegator old.links lives.stands on in
    let some = c.in-Some.ensures.some h.on.assistant (its_assistant c.args.link history old.links h) in
    let p = err_from_is_err_and c.from_residual-in_err-put_read.result c.from_residual-in_err-put_read.ensures.1 in
    rw p.1 (ap is_none (which_read c.args.link history old.links h c.in-Some.slot some.0))

use Rattle.scenario_sources.proofs.Prelude.{◌≡◌, ◌∷◌, ◌∙◌, ap, sym, is_some, false, airs_of, event, airs_exist, is_ciphered, source_calls, arith, event_fault, counter_ends}
use Rattle.scenario_sources.proofs.Phasing.{closed_is, coded, left_out, none_of}
use Rattle.scenario_sources.proofs.sending.perform.Goals as goal

pub returns-then-is_ciphered-clause-performs : goal.returns-then-is_ciphered-clause-performs
returns-then-is_ciphered-clause-performs c version own is = grind (arith, coded)

pub event-requires : goal.event-requires
event-requires c = none_of _ (sym c.is_ciphered.ensures ∙ c.if-is_ciphered.false)

pub returns-in-Ok-clause-performs : goal.returns-in-Ok-clause-performs
returns-in-Ok-clause-performs c = λ version own is.
    let setup = c.in-Sending.started.setup in
    let calls = source_calls own in
    let here = rw c.in-Sending.is at is in
    let plain : is_ciphered own ≡ false = ap is_some (sym here.1.cipher) ∙ sym c.is_ciphered.ensures ∙ c.if-is_ciphered.false in
    let ok = c.in-Ok.ensures.ok calls here.1.calls in (
      rw (here.0, plain) (ap (λ s. counter_ends (event_fault s calls)) (sym here.1.setup) ∙ ap counter_ends ok.0),
      grind arith,
      λ running. closed_is own setup c.last_event-closed.result here.1.setup here.0 running (c.last_event-closed.ensures.calls calls here.1.calls),
      left_out own setup c.in-Ok.stale here.1.setup
          (c.in-Ok.ensures.stale calls (airs_of setup (event ∷ calls)) here.1.calls (airs_exist setup (event ∷ calls) c.event.ensures.checked)),
    )

use Rattle.sink_c.proofs.Prelude.{ℕ, ◌≡◌, ◌∷◌, ◌∙◌, IsSome, ap, arith, refl, subst, sym, control, StandsFor, BigSync, KeptStands}
use Rattle.big_info.specs.Rows.{first_fault}
use Rattle.big_info.specs.Widths.{FitsWidths}
use Rattle.big_info.specs.declared.info.BigInfo.{BigInfo}
use Rattle.c_values.specs.Infos.{big_info}
use Rattle.delegator_history.specs.States.{sync_to_group}
use Rattle.sink_c.proofs.tune.vm_sink_tune.Goals as goal

-- the group that was checked is that of C's struct, and the set has the bits that C gave
pub returns-in-Ok-tune-clause-stands : goal.returns-in-Ok-tune-clause-stands
returns-in-Ok-tune-clause-stands c = λ setup calls stands _.
    let info : c.in-Ok.checked.info ≡ big_info c.args.info.now = c.in-Ok.ensures.ok.0 ∙ c.info_in-read.ensures in
    let which : c.in-Some.which ≡ c.args.streams = c.in-Some.ensures.1 in
    let big_sync : (n : ℕ) → BigInfo → BigSync = λ n it.
    record { info = it; which = n; first = c.args.first_event; anchor = c.args.anchor; delay = c.args.delay } in
    subst (λ (it : BigSync). StandsFor setup (control (sync_to_group it) ∷ calls) c.tune.new.self) (λ i. big_sync (which i) (info i))
    (c.in-Ok-tune.ensures.stands setup calls (subst (KeptStands setup calls) c.lend.ensures.value stands))

pub returns-in-Ok-tune-clause-bounds : goal.returns-in-Ok-tune-clause-bounds
returns-in-Ok-tune-clause-bounds c = λ _. (
  subst FitsWidths c.info_in-read.ensures (c.fits.ensures.0 c.if-not-fits.false),
  omega (arith, c.if-streams-eq0.false),
  c.if-first_event.false,
  c.if-anchor.false,
  c.if-delay.false,
)

pub returns-in-Err-tune-clause-bounds : goal.returns-in-Err-tune-clause-bounds
returns-in-Err-tune-clause-bounds c = λ _. (
  subst FitsWidths c.info_in-read.ensures (c.fits.ensures.0 c.if-not-fits.false),
  omega (arith, c.if-streams-eq0.false),
  c.if-first_event.false,
  c.if-anchor.false,
  c.if-delay.false,
)

pub returns-in-Err-clause-bounds : goal.returns-in-Err-clause-bounds
returns-in-Err-clause-bounds c = λ _. (
  subst FitsWidths c.info_in-read.ensures (c.fits.ensures.0 c.if-not-fits.false),
  omega (arith, c.if-streams-eq0.false),
  c.if-first_event.false,
  c.if-anchor.false,
  c.if-delay.false,
)

pub returns-in-Ok-tune-clause-sound : goal.returns-in-Ok-tune-clause-sound
returns-in-Ok-tune-clause-sound c = λ _ _. ap (first_fault 31) (sym c.info_in-read.ensures) ∙ c.in-Ok.ensures.ok.1

pub returns-in-Err-tune-clause-sound : goal.returns-in-Err-tune-clause-sound
returns-in-Err-tune-clause-sound c = λ _ _. ap (first_fault 31) (sym c.info_in-read.ensures) ∙ c.in-Ok.ensures.ok.1

pub returns-in-Err-clause-fault : goal.returns-in-Err-clause-fault
returns-in-Err-clause-fault c = λ _. subst (λ i. IsSome (first_fault 31 i)) c.info_in-read.ensures (subst IsSome (sym c.in-Err.ensures.err) refl)

use Rattle.std.proofs.Common.{IsSome, refl, subst, sym}
use Rattle.big_info.specs.Rows.{first_fault}
use Rattle.big_info.specs.Widths.{FitsWidths}
use Rattle.stream_c.proofs.stream.vm_stream_new.Goals as goal

pub returns-in-Err-clause-fault : goal.returns-in-Err-clause-fault
returns-in-Err-clause-fault c = λ _. subst (λ i. IsSome (first_fault 31 i)) c.info_in-read.ensures (subst IsSome (sym c.in-Err.ensures.err) refl)

pub returns-in-Err-clause-bounds : goal.returns-in-Err-clause-bounds
returns-in-Err-clause-bounds c = λ _. (
  subst FitsWidths c.info_in-read.ensures (c.fits.ensures.0 c.if-not-fits.false),
  c.if-stay.false,
  c.if-stay-2.false,
  c.if-stay-3.false,
)

pub returns-in-Ok-made-clause-bounds : goal.returns-in-Ok-made-clause-bounds
returns-in-Ok-made-clause-bounds c = λ _. (
  subst FitsWidths c.info_in-read.ensures (c.fits.ensures.0 c.if-not-fits.false),
  c.if-stay.false,
  c.if-stay-2.false,
  c.if-stay-3.false,
)

pub returns-in-Err-made-clause-bounds : goal.returns-in-Err-made-clause-bounds
returns-in-Err-made-clause-bounds c = λ _. (
  subst FitsWidths c.info_in-read.ensures (c.fits.ensures.0 c.if-not-fits.false),
  c.if-stay.false,
  c.if-stay-2.false,
  c.if-stay-3.false,
)

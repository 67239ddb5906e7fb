use Rattle.sink_c.proofs.Prelude.{◌≡◌, arith, ◌∙◌}
use Rattle.ltv_codec.proofs.Citable.{reads}
use Rattle.pacs_records.proofs.Fields.{is_lc3-true}
use Rattle.sink_c.proofs.NoFault.{no_fault}
use Rattle.sink_c.proofs.settings.record_of.Goals as goal

pub returns-then-is_err-clause-layout : goal.returns-then-is_err-clause-layout
returns-then-is_err-clause-layout c = λ _ fits.
    no_fault c.check_ltvs.result (c.check_ltvs.ensures.exact ∙ reads c.args.metadata.now fits.metadata) (grind (arith, c.is_err.ensures.value, c.if-is_err.true))

pub returns-then-is_err-2-clause-layout : goal.returns-then-is_err-2-clause-layout
returns-then-is_err-2-clause-layout c = λ _ fits.
    let codec : c.in-Ok.codec ≡ c.args.codec.now = grind (arith, c.in-Ok.ensures) in
    let lc3 = is_lc3-true c.in-Ok.codec (grind (arith, c.is_lc3_codec.ensures, c.if-is_lc3_codec.true)) in
    no_fault c.check_ltvs-then-is_lc3_codec.result
    (c.check_ltvs-then-is_lc3_codec.ensures.exact ∙ reads c.args.caps.now (fits.caps (grind (arith, codec, lc3))))
    (grind (arith, c.is_err-then-is_lc3_codec.ensures.value, c.if-is_err-2.true))

use Rattle.ltv_codec.proofs.Prelude.{arith}
use Rattle.ltv_codec.proofs.Loops.{fits_at, all_encoded}
use Rattle.ltv_codec.proofs.writing.encode_ltvs.Goals as goal

pub put_ltv-requires : goal.put_ltv-requires
put_ltv-requires c = fits_at c.as_slice-ltv-items.result.now c.loop-ltv.ltv-index c.ltv-item.result c.as_slice-ltv-items.ensures.fit c.loop-ltv-test.true c.ltv-item.is

pub returns : goal.returns
returns c = grind (arith, all_encoded)

use Rattle.ltv_codec.proofs.Prelude.{◌≡◌, take, encoding}
use Rattle.ltv_codec.proofs.writing.encode_ltvs.Given as goal

abbrev pub invariant-loop-ltv : goal.invariant-loop-ltv
invariant-loop-ltv l = l.out ≡ encoding (take l.ltv-index l.list)

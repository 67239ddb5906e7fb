use Rattle.base_grammar.proofs.Prelude.{length, flat_map, subgroup, ap, arith}
use Rattle.base_grammar.proofs.Sizes.{length-encoding}
use Rattle.base_grammar.proofs.base.Base.octet_count.Goals as goal

pub size_within-requires : goal.size_within-requires
size_within-requires c =
    omega (arith, length-encoding c.args.self.now, ap (λ s. length (flat_map subgroup s)) c.as_slice.ensures.same, c.as_slice.ensures.base.small)

pub returns-clause-count : goal.returns-clause-count
returns-clause-count c =
    omega (arith, length-encoding c.args.self.now, ap (λ s. length (flat_map subgroup s)) c.as_slice.ensures.same, c.size_within.ensures)

pub returns-clause-most : goal.returns-clause-most
returns-clause-most c =
    omega (arith, length-encoding c.args.self.now, ap (λ s. length (flat_map subgroup s)) c.as_slice.ensures.same, c.size_within.ensures, c.as_slice.ensures.base.small)

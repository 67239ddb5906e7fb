use Rattle.base_grammar.proofs.Prelude.{is_lc3, arith}
use Rattle.base_grammar.proofs.Places.{fits_at, found_fits}
use Rattle.base_grammar.proofs.effective.effective_in.Goals as goal

pub values_at-requires-clause-high : goal.values_at-requires-clause-high
values_at-requires-clause-high c = grind (arith, fits_at, found_fits, is_lc3)

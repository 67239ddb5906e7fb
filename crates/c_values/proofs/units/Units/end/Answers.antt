use Rattle.std.proofs.Common.{sym, subst}
use Rattle.c_values.specs.Kept.{Brought}
use Rattle.c_values.proofs.Rounds.{ended}
use Rattle.c_values.proofs.units.Units.end.Goals as goal

pub returns : goal.returns
returns c = record {
  brought = λ before units hands caused. subst (Brought before units c.settle.new.self) (sym c.is_whole-all.ensures.whole)
      (ended c.args.handed before c.args.self.now c.settle.new.self units c.is_whole-all.ensures.grew c.is_whole-all.ensures.lacked
      c.is_whole-all.ensures.counted c.settle.ensures.waiting c.settle.ensures.room hands caused);
}

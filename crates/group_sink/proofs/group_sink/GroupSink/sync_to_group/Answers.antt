use Rattle.group_sink.proofs.Prelude.{◌∷◌, Some, subst, sym, tune, StandsFor}
use Rattle.group_sink.proofs.Standing.{fresh_stands}
use Rattle.group_sink.proofs.group_sink.GroupSink.sync_to_group.Goals as goal

pub returns : goal.returns
returns c big_sync calls made = subst (λ on. StandsFor (tune big_sync ∷ calls) (Some on)) (sym made) (fresh_stands calls big_sync)

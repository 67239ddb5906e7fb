use Rattle.replay_migration.proofs.Prelude.{◌∷◌, [], ◌+◌, drop, take, take_rest}
use Rattle.std.proofs.lemmas.Result.{err_from_is_err_and, on_err_weaker}
use Rattle.replay_migration.proofs.Writes.{first_short, second_short, third_short}
use Rattle.replay_migration.proofs.migration.write_migrated.Goals as goal

pub returns-in_err-write_whole-clause-short : goal.returns-in_err-write_whole-clause-short
returns-in_err-write_whole-clause-short g c =
    let p = err_from_is_err_and c.from_residual.result c.from_residual.ensures.1 in
    let text = c.args.text.now in
    let at = c.in-Some.at in
    rw p.1 (first_short _ (take at text) (50 ∷ []) (drop (at + 1) text) c.in-Some.ensures.two _ _ c.in_err-write_whole.ensures.short)

pub returns-in_err-write_whole-2-clause-short : goal.returns-in_err-write_whole-2-clause-short
returns-in_err-write_whole-2-clause-short g c =
    let p = err_from_is_err_and c.from_residual-in_err-write_whole-2.result c.from_residual-in_err-write_whole-2.ensures.1 in
    let text = c.args.text.now in
    let at = c.in-Some.at in
    rw p.1 (second_short _ (take at text) (50 ∷ []) (drop (at + 1) text) c.in-Some.ensures.two _ _ _ c.in_ok-write_whole.ensures.ok c.in_err-write_whole-2.ensures.short)

pub returns-clause-short : goal.returns-clause-short
returns-clause-short g c =
    let text = c.args.text.now in
    let at = c.in-Some.at in
    on_err_weaker c.write_whole-4.result
    (third_short _ (take at text) (50 ∷ []) (drop (at + 1) text) c.in-Some.ensures.two _ _ _ _ c.in_ok-write_whole.ensures.ok c.in_ok-write_whole-2.ensures.ok)
    (rw take_rest at c.write_whole-4.ensures.short)

use Rattle.replay_migration.proofs.Prelude.{◌≡◌, ◌+◌, ◌-◌, ◌∙◌, ap, length, arith, text_limit}
use Rattle.replay_migration.proofs.Lines.{ends, too_long}
use Rattle.replay_migration.proofs.piece.join.Goals as goal

pub returns : goal.returns
returns c =
    let text = c.args.text.now in
    let seen : length c.as_slice.result.now ≡ length text = ap length c.as_slice.ensures in
    too_long text c.args.piece.now (text_limit - length c.as_slice.result.now) _ (omega (arith, c.requires.fits, seen)) (omega (arith, c.if-piece-room.false))
    (ap (λ n. n + c.lines_ended-2.result + 1) (c.lines_ended.ensures.count ∙ ap ends c.as_slice-2.ensures)
    ∙ ap (λ n. ends text + n + 1) c.lines_ended-2.ensures.count)

use Rattle.receive_state.proofs.Prelude.{◌≡◌, false, ◌∙◌, sym, is_reserved}
use Rattle.receive_state.proofs.state.group_fits.Goals as goal

pub returns-then-not-are_reserved : goal.returns-then-not-are_reserved
returns-then-not-are_reserved c =
    let kept : is_reserved c.args.group.now.bis_sync_state ≡ false = sym c.are_reserved.ensures ∙ c.if-not-are_reserved.true in rw (c.as_slice.ensures, kept)

use Rattle.announcement_train.proofs.Prelude.{sym, ◌∙◌, encoding}
use Rattle.announcement_train.proofs.train.base_list.Goals as goal

pub returns : goal.returns
returns c =
    let base = c.args.base.now in (
      encoding base,
      c.in_ok-put_base.ensures.base,
      c.in_ok-put_base.ensures.put ∙ c.in_ok-octets.ensures (encoding base) (sym c.octet_count-count.ensures.count),
    )

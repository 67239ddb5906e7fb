use Rattle.isoal_framed.proofs.framed_out.FramedOut.pack_next.Goals as goal

pub returns-clause-laid : goal.returns-clause-laid
returns-clause-laid c = λ units earlier at is_sent full.
    let it = c.in_ok-packing.ensures.laid units earlier at is_sent full in
    (it.0, it.1, rw (c.in_ok-pdus.ensures, c.take_packed-stale.ensures.stale) it.2, rw (← it.3, ← it.4) c.take_packed-stale.ensures.left)

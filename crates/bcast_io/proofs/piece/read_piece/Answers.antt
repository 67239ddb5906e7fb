use Rattle.bcast_io.proofs.Prelude.{take, ap, arith, length, length-append, length-take}
use Rattle.bcast_io.proofs.piece.read_piece.Goals as goal

pub returns-clause-reads : goal.returns-clause-reads
returns-clause-reads g c =
    let bound = c.in_ok-count.ensures.bound in
    record {
      octets = take c.in_ok-count.count c.read.new.into;
      consumed = c.in_ok-count.ensures.bytes.0;
      joined = c.in_ok-append.ensures.ok;
      longer = rw (c.in_ok-append.ensures.ok, length-append, length-take) (omega (arith, bound));
      within = rw (c.in_ok-append.ensures.ok, length-append, length-take) (omega (arith, bound, simp length-take at c.read.auto.into, c.min-asked.ensures, ap length c.as_slice.ensures));
    }

use Rattle.bcast_base.proofs.Prelude.{arith}
use Rattle.bcast_base.proofs.Fields.{octets_below}
use Rattle.bcast_base.proofs.reading.number_at.Goals as goal

pub returns-clause-below : goal.returns-clause-below
returns-clause-below c =
    octets_below c.args.k c.args.from.now c.in_ok-octets.octets.now c.in_ok-octets.rest.now c.read_le.result (λ i. omega (arith, c.type_inv.from i)) c.in_ok-octets.ensures c.read_le.ensures

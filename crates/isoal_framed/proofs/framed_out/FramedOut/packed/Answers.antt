use Rattle.isoal_framed.proofs.framed_out.FramedOut.packed.Goals as goal

pub returns-clause-partly : goal.returns-clause-partly
returns-clause-partly c = rw (← c.self.view_is) c.in_ok-pack_pdus.ensures.partly

pub returns-clause-count : goal.returns-clause-count
returns-clause-count c = rw (← c.self.view_is) c.in_ok-pack_pdus.ensures.count

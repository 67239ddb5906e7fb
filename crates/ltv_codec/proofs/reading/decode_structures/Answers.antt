use Rattle.ltv_codec.proofs.reading.decode_structures.Goals as goal

pub returns-in_err-list-clause-memory : goal.returns-in_err-list-clause-memory
returns-in_err-list-clause-memory c _ = c.in_err-list.ensures.err

use Rattle.base_grammar.proofs.Prelude.{err_from_is_err_and, arith}
use Rattle.base_grammar.proofs.Checks.{subgroup_uncounted, subgroup_uncoded, subgroup_unconfigured, subgroup_undescribed, subgroup_read, subgroup_unread}
use Rattle.base_grammar.proofs.head.subgroup_head.Goals as goal

pub returns-in_err-count-clause-fault : goal.returns-in_err-count-clause-fault
returns-in_err-count-clause-fault c = grind (arith, err_from_is_err_and, subgroup_uncounted)

pub returns-in_err-codec-clause-fault : goal.returns-in_err-codec-clause-fault
returns-in_err-codec-clause-fault c = grind (arith, err_from_is_err_and, subgroup_uncoded)

pub returns-in_err-config-clause-fault : goal.returns-in_err-config-clause-fault
returns-in_err-config-clause-fault c =
    let p = err_from_is_err_and c.from_residual-in_err-config.result c.from_residual-in_err-config.ensures.1 in
    let config = rw c.is_lc3_codec-is_lc3.ensures at c.in_err-config.ensures.reads in
    rw (p.1, p.2) (λ before. subgroup_unconfigured _ before _ _ _ _ _ _ c.in_ok-count.ensures.reads c.in_ok-codec.ensures.reads config)

pub returns-in_err-metadata-clause-fault : goal.returns-in_err-metadata-clause-fault
returns-in_err-metadata-clause-fault c =
    let p = err_from_is_err_and c.from_residual-in_err-metadata.result c.from_residual-in_err-metadata.ensures.1 in
    let config = rw c.is_lc3_codec-is_lc3.ensures at c.in_ok-config.ensures.reads in
    rw (p.1, p.2) (λ before. subgroup_undescribed _ before _ _ _ _ _ _ _ _ c.in_ok-count.ensures.reads c.in_ok-codec.ensures.reads config c.in_err-metadata.ensures.reads)

pub returns-clause-read : goal.returns-clause-read
returns-clause-read c before entries left is =
    let e = c.is_lc3_codec-is_lc3.ensures in
    subgroup_read _ before _ _ _ _ _ _ _ _ _ entries left c.in_ok-count.ensures.reads c.in_ok-codec.ensures.reads (rw e at c.in_ok-config.ensures.reads) c.in_ok-metadata.ensures.reads (rw e at is)

pub returns-clause-unread : goal.returns-clause-unread
returns-clause-unread c before fault is =
    let e = c.is_lc3_codec-is_lc3.ensures in
    subgroup_unread _ before _ _ _ _ _ _ _ _ _ fault c.in_ok-count.ensures.reads c.in_ok-codec.ensures.reads (rw e at c.in_ok-config.ensures.reads) c.in_ok-metadata.ensures.reads (rw e at is)

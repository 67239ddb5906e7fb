use Rattle.iso_pdu.proofs.Prelude.{◌-◌, length, arith, get_or, sym, ◌∙◌, ap, ℕ, fault_at}
use Rattle.iso_pdu.proofs.PartsRead.{result_err-alone, result_err-fault, passed}
use Rattle.iso_pdu.proofs.segment.segment_len.Goals as goal

pub returns-then-from-lt2-clause-err : goal.returns-then-from-lt2-clause-err
returns-then-from-lt2-clause-err c = result_err-alone c.args.place c.args.from.now c.requires c.if-from-lt2.true

pub returns-in-Some-clause-err : goal.returns-in-Some-clause-err
returns-in-Some-clause-err c =
    let count_is = ap (λ (k : ℕ). fault_at c.args.place (get_or c.args.from.now 0 0) k (length c.args.from.now - 2)) (sym c.from-count.ensures) in
    result_err-fault c.args.place c.args.from.now c.in-Some.fault (omega arith) (count_is ∙ sym c.segment_fault.ensures ∙ c.in-Some.is)

pub returns-in-None-clause-ok : goal.returns-in-None-clause-ok
returns-in-None-clause-ok c = grind (arith, fault_at, get_or, length, passed)

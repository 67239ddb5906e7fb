use Rattle.std.proofs.Common.{sym, subst, ap, ◌∙◌, suc}
use Rattle.std.proofs.lemmas.Result.{err_from_is_err_and}
use Rattle.delegator_machine.specs.State.Halves.{Halves}
use Rattle.multi_assist.specs.State.Gathering.{StopsShort, asked}
use Rattle.multi_assist.specs.State.Links.{linked}
use Rattle.multi_assist.proofs.Gathering.{ends, given_on, stops}
use Rattle.multi_assist.proofs.links.Links.gather.Goals as goal

pub notices-preserved : goal.notices-preserved
notices-preserved c =
    let before : Halves = c.args.from.now in
    let next : Halves = c.next_notice.new.self in
    let step = c.next_notice.ensures.step in
    record {
      gathered = given_on before.scan c.notices.from.scan next.scan (linked c.args.self.now) (linked c.notices.self) (linked c.put.new.self)
          c.in-Some.notice c.notices.invariant.gathered (sym c.in-Some.ensures.notice) (ap (λ (d : Halves). d.scan) step) c.in_ok-put.ensures.ok;
      terms = c.put.ensures.terms ∙ c.notices.invariant.terms;
      stands = λ setup calls stands. let so = c.notices.invariant.stands setup calls stands in
          (suc so.0, c.next_notice.ensures.stands setup (asked so.0 calls) so.1);
      receivers = ap (λ (d : Halves). d.sink) step ∙ c.notices.invariant.receivers;
    }

pub returns-in_err-put-clause-stands : goal.returns-in_err-put-clause-stands
returns-in_err-put-clause-stands c = λ setup calls stands. let so = c.notices.invariant.stands setup calls stands in
    (suc so.0, c.next_notice.ensures.stands setup (asked so.0 calls) so.1)

pub returns-in_err-put-clause-err : goal.returns-in_err-put-clause-err
returns-in_err-put-clause-err c =
    let p = err_from_is_err_and c.from_residual.result c.from_residual.ensures.1 in
    rw p.1 (subst (StopsShort c.args.from.now.scan c.next_notice.new.self.scan (linked c.args.self.now)) (sym c.in_err-put.ensures.err)
    (stops _ c.notices.from.scan _ _ (linked c.notices.self) c.in-Some.notice c.notices.invariant.gathered (sym c.in-Some.ensures.notice) (ap (λ (d : Halves). d.scan) c.next_notice.ensures.step)))

pub returns-clause-ok : goal.returns-clause-ok
returns-clause-ok c = ends _ c.notices.from.scan _ _ (linked c.notices.self) c.notices.invariant.gathered (sym c.in_default.ensures.notice) (ap (λ (d : Halves). d.scan) c.next_notice.ensures.step)

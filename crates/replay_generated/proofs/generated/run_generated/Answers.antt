use Rattle.std.proofs.Common.{arith}
use Rattle.replay_generated.proofs.Prelude.{map, airs_of, lines_made, unassigned_run}
use Rattle.replay_generated.proofs.Promising.{run_promises}
use Rattle.replay_generated.proofs.generated.run_generated.Goals as goal

pub returns-clause-generated : goal.returns-clause-generated
returns-clause-generated g c =
    run_promises c.args.seed c.args.events c.run.result (map (λ b. (goal.Outlet-dyn g (b.vtable, b.value)).account b.value) c.args.outlets.now.items)
    (map (λ b. (goal.Outlet-dyn g (b.vtable, b.value)).account b.value) c.run.new.outlets.items) (g.K.ByteSink.contents c.args.sink.now) (g.K.ByteSink.contents c.run.new.sink)
    (g.K.ByteSink.faults c.args.sink.now) (g.K.ByteSink.faults c.run.new.sink) c.requires.most (λ version line next. (c.a_line_says_one_step.ensures.says version line next).0)
    (λ airs meets. record {
      octets = λ starts lines. c.one_transcript.ensures.octets airs_of airs starts lines c.some_airs_meet.ensures meets;
      end = λ starts lines. c.one_transcript.ensures.end airs_of airs starts lines c.some_airs_meet.ensures meets;
      units = λ starts lines. c.one_transcript.ensures.units airs_of airs starts lines c.some_airs_meet.ensures meets;
      accepted = λ starts lines. c.one_transcript.ensures.accepted airs_of airs starts lines c.some_airs_meet.ensures meets;
      handed = λ starts lines line. c.one_transcript.ensures.handed airs_of airs starts lines line c.some_airs_meet.ensures meets;
    }) c.run.ensures.ends

pub returns-clause-unassigned : goal.returns-clause-unassigned
returns-clause-unassigned g c airs meets =
    unassigned_run airs (map (λ b. (goal.Outlet-dyn g (b.vtable, b.value)).account b.value) c.args.outlets.now.items) (lines_made c.args.seed c.args.events) _ _
    (grind (arith, airs_of, map)) c.run.ensures.unassigned

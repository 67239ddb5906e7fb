use Rattle.replay_lines.proofs.Prelude.{◌∙◌, Some, ap, map, refl, arith, none_run, listened}
use Rattle.replay_lines.proofs.Endings.{ends_at_once}
use Rattle.replay_lines.proofs.ReadingOn.{none_within}
use Rattle.replay_lines.proofs.LineSteps.{running_none, bound_none, running_more, running_ends, unassigned_at}
use Rattle.replay_lines.proofs.Listening.{has_none, telling_ends, telling_more, telling_none, wanted_told}
use Rattle.replay_lines.proofs.lines.run_lines.Goals as goal

pub returns-in_default : goal.returns-in_default
returns-in_default g c =
    let left = g.S.ByteSource.left c.args.source.now in
    let boxes = map (λ b. (goal.Outlet-dyn g (b.vtable, b.value)).account b.value) c.args.outlets.now.items in
    let ended = wanted_told g.L.Listener.may_fail (ends_at_once boxes left (g.K.ByteSink.contents c.args.sink.now)) in
    let told = has_none g.L.Listener.row_of (listened g.L.Listener.told g.L.Listener.rows c.args.listener.now c.args.sink.now) in
    let within = none_within left in
    grind (arith, none_run)

pub returns-in_default-new : goal.returns-in_default-new
returns-in_default-new g c =
    let left = g.S.ByteSource.left c.args.source.now in
    let boxes = map (λ b. (goal.Outlet-dyn g (b.vtable, b.value)).account b.value) c.args.outlets.now.items in
    let ended = wanted_told g.L.Listener.may_fail (ends_at_once boxes left (g.K.ByteSink.contents c.args.sink.now)) in
    let told = has_none g.L.Listener.row_of (listened g.L.Listener.told g.L.Listener.rows c.args.listener.now c.args.sink.now) in
    let within = none_within left in
    grind (arith, none_run)

pub returns-in-Some : goal.returns-in-Some
returns-in-Some g c =
    let starts = map (λ b. (goal.Outlet-dyn g (b.vtable, b.value)).account b.value) c.args.outlets.now.items in
    let before = map (λ b. (goal.Outlet-dyn g (b.vtable, b.value)).account b.value) c.lines.outlets.items in
    let left = g.S.ByteSource.left c.args.source.now in
    let start = listened g.L.Listener.told g.L.Listener.rows c.args.listener.now c.args.sink.now in record {
      ended = running_ends c.lines.invariant.running g.L.Listener.may_fail
          (map (λ b. (goal.Outlet-dyn g (b.vtable, b.value)).account b.value) c.run_line.new.outlets.items)
          (g.S.ByteSource.left c.run_line.new.source) (g.K.ByteSink.contents c.run_line.new.sink)
          c.run_line.new.reader c.run_line.new.machine c.run_line.result
          (λ lines. c.run_line.ensures.runs starts lines left (g.K.ByteSink.contents c.args.sink.now)) c.in-Some.ending c.in-Some.is;
      unassigned = unassigned_at c.run_line.new.outlets.items c.lines.invariant.running
          (λ lines. c.run_line.ensures.unassigned starts lines before);
      told = telling_ends c.lines.invariant.telling (g.S.ByteSource.left c.run_line.new.source)
          (listened g.L.Listener.told g.L.Listener.rows c.run_line.new.listener c.run_line.new.sink) c.run_line.new.reader c.run_line.result
          (λ lines. c.run_line.ensures.told lines left start) c.in-Some.ending c.in-Some.is;
      within = c.run_line.ensures.within left c.lines.invariant.running.lines c.lines.invariant.running.read;
      read_fault = λ e. rw c.lines.invariant.reads at (c.run_line.ensures.read_fault (c.in-Some.is ∙ ap Some e));
      no_read_fault = λ other. c.run_line.ensures.no_read_fault (λ e. other (cc)) ∙ c.lines.invariant.reads;
      write_fault = λ e. rw c.lines.invariant.writes at (c.run_line.ensures.write_fault (c.in-Some.is ∙ ap Some e));
      no_write_fault = λ other. c.run_line.ensures.no_write_fault (λ e. other (cc)) ∙ c.lines.invariant.writes;
    }

pub lines-init : goal.lines-init
lines-init g c = record {
  running = running_none c.args.outlets.now.items (map (λ b. (goal.Outlet-dyn g (b.vtable, b.value)).account b.value) c.args.outlets.now.items) (g.S.ByteSource.left c.args.source.now) (g.K.ByteSink.contents c.args.sink.now)
      c.in-Ok.reader c.in-Ok-new.machine c.in-Ok.ensures c.in-Ok-new.ensures;
  telling = grind (arith, telling_none, listened);
  bound = bound_none c.in-Ok.reader c.in-Ok.ensures;
  reads = refl;
  writes = refl;
}

pub lines-preserved : goal.lines-preserved
lines-preserved g c = record {
  running = running_more c.lines.invariant.running g.L.Listener.may_fail
      (map (λ b. (goal.Outlet-dyn g (b.vtable, b.value)).account b.value) c.run_line.new.outlets.items)
      (g.S.ByteSource.left c.run_line.new.source) (g.K.ByteSink.contents c.run_line.new.sink) c.run_line.new.reader c.run_line.new.machine
      c.run_line.result
      (λ lines. c.run_line.ensures.runs (map (λ b. (goal.Outlet-dyn g (b.vtable, b.value)).account b.value) c.args.outlets.now.items) lines
      (g.S.ByteSource.left c.args.source.now) (g.K.ByteSink.contents c.args.sink.now)) c.run_line.new.outlets.items c.in-None.is
      (λ lines. c.run_line.ensures.unassigned (map (λ b. (goal.Outlet-dyn g (b.vtable, b.value)).account b.value) c.args.outlets.now.items) lines
      (map (λ b. (goal.Outlet-dyn g (b.vtable, b.value)).account b.value) c.lines.outlets.items));
  telling = telling_more c.lines.invariant.telling (g.S.ByteSource.left c.run_line.new.source)
      (listened g.L.Listener.told g.L.Listener.rows c.run_line.new.listener c.run_line.new.sink) c.run_line.new.reader c.run_line.result
      (λ lines. c.run_line.ensures.told lines (g.S.ByteSource.left c.args.source.now)
      (listened g.L.Listener.told g.L.Listener.rows c.args.listener.now c.args.sink.now)) c.in-None.is;
  bound = omega (arith, c.in-None.ensures.nearer, c.lines.invariant.bound);
  reads = c.in-None.ensures.no_read_fault (λ e. cc) ∙ c.lines.invariant.reads;
  writes = c.in-None.ensures.no_write_fault (λ e. cc) ∙ c.lines.invariant.writes;
}

pub run_line-requires : goal.run_line-requires
run_line-requires g c = search

use Rattle.replay_generated.proofs.Prelude.{◌+◌, ◌∙◌, ap, sym, map, refl, subst, arith, length, Ok, generated_lines, lines_made, IsComing, none_run}
use Rattle.replay_generated.proofs.Comings.{one_comes}
use Rattle.replay_generated.proofs.EndLines.{made_end}
use Rattle.replay_generated.proofs.GeneratedText.{generated_count, generated_read}
use Rattle.replay_generated.proofs.Runs.{none_taken, running_none, runs_on, runs_out, runs_through, stops_here, unassigned_here, unassigned_out}
use Rattle.replay_generated.proofs.running.run_lines.Goals as goal

pub returns-in_default-clause-ran : goal.returns-in_default-clause-ran
returns-in_default-clause-ran g c = grind (arith, none_taken, map, lines_made)

pub lines-init : goal.lines-init
lines-init g c = record {
  running = running_none c.args.outlets.now.items (map (λ b. (goal.Outlet-dyn g (b.vtable, b.value)).account b.value) c.args.outlets.now.items) (lines_made c.args.seed c.args.events) _
      (generated_lines c.args.seed c.args.events) c.in-Ok.machine c.args.counts.now (generated_read c.args.seed c.args.events c.requires.most) c.new-lines.ensures c.in-Ok.ensures c.requires.none;
  bound = omega (arith, generated_count c.args.seed c.args.events c.requires.most, ap length c.new-lines.ensures);
}

pub returns-in-Err-clause-ran : goal.returns-in-Err-clause-ran
returns-in-Err-clause-ran g c = stops_here c.lines.invariant.running

pub returns-in-Ok-None-clause-ran : goal.returns-in-Ok-None-clause-ran
returns-in-Ok-None-clause-ran g c =
    runs_through c.lines.invariant.running (c.next_of.ensures.none (c.in-Ok-None.is ∙ ap (λ o. Ok o) c.in-Ok-None.field-0-is))
    (made_end c.args.seed c.args.events (generated_read c.args.seed c.args.events c.requires.most))

pub lines-preserved : goal.lines-preserved
lines-preserved g c =
    let comes = one_comes c.in-Ok-Some.field-0 c.in-Ok-Some.coming c.next_of.new.line c.lines.lines c.next_of.new.lines c.in-Ok-Some.field-0-is c.in-Ok-Some.ensures.comes in
    let is = subst (λ octets. IsComing c.in-Ok-Some.coming octets comes.line) (sym c.as_slice.ensures) comes.is in
    let starts = map (λ b. (goal.Outlet-dyn g (b.vtable, b.value)).account b.value) c.args.outlets.now.items in
    record {
      running = runs_on c.lines.invariant.running comes.line c.next_of.new.lines comes.next
          c.run_line.new.outlets.items (map (λ b. (goal.Outlet-dyn g (b.vtable, b.value)).account b.value) c.run_line.new.outlets.items)
          c.run_line.new.machine c.run_line.new.counts (c.lines.number + 1) c.run_line.result refl c.in-None.is
          (c.run_line.ensures.unassigned starts) (λ history number run. c.run_line.ensures.runs starts history comes.line number is run);
      bound = omega (arith, c.lines.invariant.bound, ap length comes.next);
    }

pub returns-in-Some-clause-ran : goal.returns-in-Some-clause-ran
returns-in-Some-clause-ran g c =
    let comes = one_comes c.in-Ok-Some.field-0 c.in-Ok-Some.coming c.next_of.new.line c.lines.lines c.next_of.new.lines c.in-Ok-Some.field-0-is c.in-Ok-Some.ensures.comes in
    let is = subst (λ octets. IsComing c.in-Ok-Some.coming octets comes.line) (sym c.as_slice.ensures) comes.is in
    let starts = map (λ b. (goal.Outlet-dyn g (b.vtable, b.value)).account b.value) c.args.outlets.now.items in
    runs_out c.lines.invariant.running comes.line c.next_of.new.lines comes.next
    (map (λ b. (goal.Outlet-dyn g (b.vtable, b.value)).account b.value) c.run_line.new.outlets.items)
    c.run_line.new.machine c.run_line.new.counts (c.lines.number + 1) c.run_line.result c.in-Some.ending refl c.in-Some.is
    (λ history number run. c.run_line.ensures.runs starts history comes.line number is run)

pub returns-in-Err-clause-unassigned : goal.returns-in-Err-clause-unassigned
returns-in-Err-clause-unassigned g c = unassigned_here c.lines.invariant.running

pub returns-in-Ok-None-clause-unassigned : goal.returns-in-Ok-None-clause-unassigned
returns-in-Ok-None-clause-unassigned g c = unassigned_here c.lines.invariant.running

pub returns-in-Some-clause-unassigned : goal.returns-in-Some-clause-unassigned
returns-in-Some-clause-unassigned g c =
    unassigned_out c.lines.invariant.running c.run_line.new.outlets.items
    (c.run_line.ensures.unassigned (map (λ b. (goal.Outlet-dyn g (b.vtable, b.value)).account b.value) c.args.outlets.now.items))

pub returns-in_default-clause-unassigned : goal.returns-in_default-clause-unassigned
returns-in_default-clause-unassigned g c = none_run (map (λ b. (goal.Outlet-dyn g (b.vtable, b.value)).account b.value) c.args.outlets.now.items) (lines_made c.args.seed c.args.events) c.args.outlets.now.items

use Rattle.scenario_sinks.proofs.Prelude.{◌∙◌, ◌-◌, ◌<◌, arith}
use Rattle.scenario_sinks.proofs.Closings.{between_next_at, between_ends, between_over, entries_next, entry_here, one_ends, one_next, one_over}
use Rattle.scenario_sinks.proofs.Unassigned.{unassigned_more}
use Rattle.scenario_sinks.proofs.close.close_sinks.Goals as goal

pub sinks-preserved : goal.sinks-preserved
sinks-preserved g c =
    let eight = c.sinks.auto.sinks ∙ c.requires.eight in
    let less = c.sinks-test.true in
    let most = c.requires.end in
    let within : c.sinks.number < 8 = omega (arith, less, most) in
    record {
      left = λ past are. entries_next past c.sinks.number c.from.result c.sinks.sinks c.close_sink.new.entry c.from.ensures (c.sinks.invariant.left past are);
      between = λ past are empty first end cleared.
          let b = c.sinks.invariant.between past are empty first end cleared in
          between_next_at past c.args.source c.args.event c.sinks.number c.from.result c.sinks.sinks c.close_sink.new.entry c.sinks.gathered c.close_sink.new.gathered
          c.args.text.now c.sinks.text c.close_sink.new.text _ _ _ c.from.ensures eight within b
          (c.in-Ok.ensures.closes (past.boxes c.sinks.number) (past.mades c.sinks.number) (past.sources c.sinks.number) (past.lives c.sinks.number) (past.received c.sinks.number)
          (entry_here past c.sinks.number c.from.result c.sinks.sinks c.index-sinks-from.result c.from.ensures eight within (c.sinks.invariant.left past are))
          b.empty cleared);
      one = λ past are empty alone kept.
          one_next past c.args.first c.from.result c.args.source c.args.event c.sinks.number c.args.end c.args.sinks.now c.sinks.sinks c.close_sink.new.entry
          c.sinks.gathered c.close_sink.new.gathered c.args.text.now c.sinks.text c.close_sink.new.text _ _ _ c.from.ensures within eight are less alone
          (c.sinks.invariant.one past are empty alone kept)
          (λ none. c.in-Ok.ensures.hands (past.boxes c.sinks.number) (past.mades c.sinks.number) (past.sources c.sinks.number) (past.lives c.sinks.number) (past.received c.sinks.number)
          (entry_here past c.sinks.number c.from.result c.sinks.sinks c.index-sinks-from.result c.from.ensures eight within (c.sinks.invariant.left past are))
          none kept);
      others = λ past are.
          unassigned_more past c.sinks.number c.args.outlets.now.items c.sinks.outlets.items c.close_sink.new.outlets.items (c.sinks.invariant.others past are)
          (c.close_sink.ensures.others (past.boxes c.sinks.number) (past.mades c.sinks.number) (past.sources c.sinks.number) (past.lives c.sinks.number) (past.received c.sinks.number)
          (entry_here past c.sinks.number c.from.result c.sinks.sinks c.index-sinks-from.result c.from.ensures eight within (c.sinks.invariant.left past are)));
    }

pub returns-in-Err-clause-closes : goal.returns-in-Err-clause-closes
returns-in-Err-clause-closes g c past are empty first end cleared =
    let b = c.sinks.invariant.between past are empty first end cleared in
    let eight = c.sinks.auto.sinks ∙ c.requires.eight in
    let less = c.sinks-test.true in
    let within : c.sinks.number < 8 = omega (arith, less, end) in
    between_ends past c.args.source c.args.event c.sinks.number (7 - c.sinks.number) c.sinks.sinks _ c.close_sink.new.entry c.sinks.gathered c.close_sink.new.gathered
    c.args.text.now c.sinks.text c.close_sink.new.text _ _ _ c.in-Err.stop (omega (arith, within)) b
    (c.in-Err.ensures.closes (past.boxes c.sinks.number) (past.mades c.sinks.number) (past.sources c.sinks.number) (past.lives c.sinks.number) (past.received c.sinks.number)
    (entry_here past c.sinks.number c.from.result c.sinks.sinks c.index-sinks-from.result c.from.ensures eight within (c.sinks.invariant.left past are))
    b.empty cleared)

pub returns-in-Err-clause-one : goal.returns-in-Err-clause-one
returns-in-Err-clause-one g c past are empty alone kept =
    let eight = c.sinks.auto.sinks ∙ c.requires.eight in
    let less = c.sinks-test.true in
    let most = c.requires.end in
    let within : c.sinks.number < 8 = omega (arith, less, most) in
    one_ends past c.args.first c.args.source c.args.event c.sinks.number c.args.end c.args.sinks.now c.sinks.sinks _ c.close_sink.new.entry
    c.sinks.gathered c.close_sink.new.gathered c.args.text.now c.sinks.text c.close_sink.new.text _ _ _ c.in-Err.stop less alone
    (c.sinks.invariant.one past are empty alone kept)
    (λ none. c.in-Err.ensures.hands (past.boxes c.sinks.number) (past.mades c.sinks.number) (past.sources c.sinks.number) (past.lives c.sinks.number) (past.received c.sinks.number)
    (entry_here past c.sinks.number c.from.result c.sinks.sinks c.index-sinks-from.result c.from.ensures eight within (c.sinks.invariant.left past are))
    none kept)

pub returns-in-Err-clause-others : goal.returns-in-Err-clause-others
returns-in-Err-clause-others g c past are =
    let eight = c.sinks.auto.sinks ∙ c.requires.eight in
    let less = c.sinks-test.true in
    let most = c.requires.end in
    let within : c.sinks.number < 8 = omega (arith, less, most) in
    unassigned_more past c.sinks.number c.args.outlets.now.items c.sinks.outlets.items c.close_sink.new.outlets.items (c.sinks.invariant.others past are)
    (c.close_sink.ensures.others (past.boxes c.sinks.number) (past.mades c.sinks.number) (past.sources c.sinks.number) (past.lives c.sinks.number) (past.received c.sinks.number)
    (entry_here past c.sinks.number c.from.result c.sinks.sinks c.index-sinks-from.result c.from.ensures eight within (c.sinks.invariant.left past are)))

pub returns-clause-closes : goal.returns-clause-closes
returns-clause-closes g c past are empty first end cleared =
    between_over past c.args.source c.args.event c.sinks.number c.sinks.sinks c.sinks.gathered c.args.text.now c.sinks.text _ _ (omega (arith, end))
    (c.sinks.invariant.between past are empty first end cleared)

pub returns-clause-one : goal.returns-clause-one
returns-clause-one g c past are empty alone kept =
    one_over past c.args.first c.args.source c.args.event c.sinks.number c.args.end c.args.sinks.now c.sinks.sinks c.sinks.gathered c.args.text.now c.sinks.text _ _
    (omega arith) alone (c.sinks.invariant.one past are empty alone kept)

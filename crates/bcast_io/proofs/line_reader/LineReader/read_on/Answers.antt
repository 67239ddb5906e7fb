use Rattle.bcast_io.proofs.Prelude.{◌∙◌, []}
use Rattle.bcast_io.proofs.ReadingLaws.{Answers-then, Answers-found, Answers-ends, Took-of, Took-then}
use Rattle.bcast_io.proofs.line_reader.LineReader.read_on.Goals as goal

pub returns-then-branch-eq0-clause-answer : goal.returns-then-branch-eq0-clause-answer
returns-then-branch-eq0-clause-answer g c =
    let so_far = Took-then c.args.self.now c.reads.self c.fill.new.self _ _ _ [] [] c.reads.invariant.going c.reads.invariant.took c.fill.ensures.took in
    Answers-then c.last_line.result c.args.self.now c.fill.new.self c.last_line.new.self _ _ _ c.fill.ensures.over so_far (Answers-ends _ _ _ _ c.last_line.ensures.ends)

pub returns-in-Some-clause-answer : goal.returns-in-Some-clause-answer
returns-in-Some-clause-answer g c =
    let so_far = Took-then c.args.self.now c.reads.self c.fill.new.self _ _ _ [] [] c.reads.invariant.going c.reads.invariant.took c.fill.ensures.took in
    Answers-then c.in-Some.read c.args.self.now c.fill.new.self c.line_ahead.new.self _ _ _ c.fill.ensures.over so_far (Answers-found _ _ _ _ c.in-Some.ensures.found)

pub reads-preserved : goal.reads-preserved
reads-preserved g c =
    let so_far = Took-then c.args.self.now c.reads.self c.fill.new.self _ _ _ [] [] c.reads.invariant.going c.reads.invariant.took c.fill.ensures.took in
    record {
      took = Took-then c.args.self.now c.fill.new.self c.line_ahead.new.self _ _ _ [] [] c.fill.ensures.over so_far (Took-of _ _ _ [] c.in-None.ensures.none);
      empty = c.in-None.ensures.all;
      going = c.line_ahead.ensures.over;
      fits = c.line_ahead.ensures.sound.fits;
      none_failed = c.in_ok-fill.ensures.none_failed ∙ c.reads.invariant.none_failed;
    }

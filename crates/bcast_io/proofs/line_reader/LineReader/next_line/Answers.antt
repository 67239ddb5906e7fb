use Rattle.bcast_io.proofs.Prelude.{◌≡◌, false, ◌∙◌, [], ap, sym, refl, Ok, Answers, GoesOn, arith, IfOk-weaker, on_err_weaker}
use Rattle.bcast_io.proofs.ReadingLaws.{Answers-then, Answers-found, BreaksOff-then, Finds-at_past, GoesOn-of, Took-of, not_ready}
use Rattle.bcast_io.proofs.line_reader.LineReader.next_line.Goals as goal

pub returns-in-Some-clause-past : goal.returns-in-Some-clause-past
returns-in-Some-clause-past g c =
    λ at. (ap Ok (Finds-at_past c.in-Some.read c.args.self.now c.line_ahead.new.self c.line_ahead.ensures.over at c.in-Some.ensures.found), refl)

pub returns-in-Some-clause-goes_on : goal.returns-in-Some-clause-goes_on
returns-in-Some-clause-goes_on g c =
    let going : c.args.self.now.over ≡ false = sym (ap (λ r. r.over) c.self.view_is) ∙ c.if-self.false in
    let left = g.S.ByteSource.left c.args.source.now in
    GoesOn-of c.in-Some.read c.args.self.now c.line_ahead.new.self left left going c.line_ahead.ensures.sound.fits (Answers-found _ _ _ left c.in-Some.ensures.found)

pub returns-in-None-clause-answer : goal.returns-in-None-clause-answer
returns-in-None-clause-answer g c =
    let left = g.S.ByteSource.left c.args.source.now in
    let left' = g.S.ByteSource.left c.read_on.new.source in
    let so_far = Took-of c.args.self.now c.line_ahead.new.self left [] c.in-None.ensures.none in
    IfOk-weaker c.read_on.result (λ read. Answers read c.line_ahead.new.self c.read_on.new.self left left') (λ read. Answers read c.args.self.now c.read_on.new.self left left')
    (λ read h. Answers-then read c.args.self.now c.line_ahead.new.self c.read_on.new.self left left left' c.line_ahead.ensures.over so_far h) c.read_on.ensures.answer

pub returns-in-None-clause-failed : goal.returns-in-None-clause-failed
returns-in-None-clause-failed g c =
    let left = g.S.ByteSource.left c.args.source.now in
    let left' = g.S.ByteSource.left c.read_on.new.source in
    let so_far = Took-of c.args.self.now c.line_ahead.new.self left [] c.in-None.ensures.none in
    on_err_weaker c.read_on.result
    (λ h. BreaksOff-then c.args.self.now c.line_ahead.new.self c.read_on.new.self left left left' c.line_ahead.ensures.over so_far h) c.read_on.ensures.failed

pub returns-in-None-clause-unread : goal.returns-in-None-clause-unread
returns-in-None-clause-unread g c = grind (arith, not_ready)

pub returns-in-None-clause-goes_on : goal.returns-in-None-clause-goes_on
returns-in-None-clause-goes_on g c =
    let going : c.args.self.now.over ≡ false = sym (ap (λ r. r.over) c.self.view_is) ∙ c.if-self.false in
    let left = g.S.ByteSource.left c.args.source.now in
    let left' = g.S.ByteSource.left c.read_on.new.source in
    let so_far = Took-of c.args.self.now c.line_ahead.new.self left [] c.in-None.ensures.none in
    IfOk-weaker c.read_on.result (λ read. Answers read c.line_ahead.new.self c.read_on.new.self left left') (λ read. GoesOn read c.args.self.now c.read_on.new.self)
    (λ read h. GoesOn-of read c.args.self.now c.read_on.new.self left left' going c.read_on.ensures.sound.fits
    (Answers-then read c.args.self.now c.line_ahead.new.self c.read_on.new.self left left left' c.line_ahead.ensures.over so_far h)) c.read_on.ensures.answer

use Rattle.recurring_lines.proofs.Prelude.{refl, Train}
use Rattle.recurring_lines.proofs.FrequentLines.{none_more}
use Rattle.recurring_lines.proofs.TrainLines.{train_read, train_takes}
use Rattle.recurring_lines.proofs.trains.read_train.Goals as goal

pub returns-in_err-head-clause-memory : goal.returns-in_err-head-clause-memory
returns-in_err-head-clause-memory c = λ failed version.
    train_takes version c.args.line.now c.in-Some.words.now c.behind_first-words.result c.in-Some.ensures c.behind_first-words.ensures (c.in_err-head.ensures.memory refl)

pub returns-clause-reads : goal.returns-clause-reads
returns-clause-reads c = λ version.
    let head = c.in-Some-2.head in
    let room = c.train.new.room in
    let none = none_more c.train.new.words.words c.has_more.result c.has_more.ensures c.if-has_more.false in
    train_read version c.args.line.now c.in-Some.words.now c.behind_first-words.result c.train.new.words (Train head.sink head.time room.ext room.adv room.acad)
    c.in-Some.ensures c.behind_first-words.ensures (rw c.in-Some-2.is at c.in_ok-head.ensures.gives) none

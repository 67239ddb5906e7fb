use Rattle.replay_migration.proofs.Prelude.{ℕ, List, [], Option, None, Some, refl, sym, arith, Consumes, Keeps}
use Rattle.replay_migration.proofs.piece.read_piece.Goals as goal

kept : (left left' : Option (List ℕ)) → Consumes left left' [] → Keeps left left'
kept None left' took = tt
kept (Some xs) None took = absurd took
kept (Some xs) (Some ys) took = sym took

pub returns-then-count-eq0-clause-reads : goal.returns-then-count-eq0-clause-reads
returns-then-count-eq0-clause-reads g c =
    let none = c.if-count-eq0.true in
    let bytes = c.in_ok-count.ensures.bytes in
    (refl, kept _ _ (rw none at bytes.0), bytes.1 none (omega (arith, c.requires.room, c.read.auto.into)))

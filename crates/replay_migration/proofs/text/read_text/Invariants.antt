use Rattle.replay_migration.proofs.Prelude.{◌≡◌, ◌≤◌, ◌-◌, length, Consumes, text_limit, piece_limit}
use Rattle.replay_migration.proofs.text.read_text.Given as goal

abbrev pub invariant-pieces : goal.invariant-pieces
invariant-pieces g l = record {
  read : Consumes (g.S.ByteSource.left l.initial.source) (g.S.ByteSource.left l.source) l.text;
  within : length l.text ≤ text_limit;
  room : length l.piece.items ≡ piece_limit;
  reads : g.S.ByteSource.faults l.source ≡ g.S.ByteSource.faults l.initial.source;
}

abbrev pub decreases-pieces : goal.decreases-pieces
decreases-pieces g l = text_limit - length l.text

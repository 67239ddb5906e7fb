use Rattle.bass_operations.proofs.Prelude.{◌≡◌, ◌++◌, ◌<◌, ◌^◌, take, flat_map, AllByRecursion, laid}
use Rattle.bass_operations.proofs.Encoded.{wish_fields}
use Rattle.bass_operations.proofs.writing.put_wishes.Given as goal

abbrev pub invariant-loop-wish : goal.invariant-loop-wish
invariant-loop-wish l = (l.out ≡ l.initial.out ++ laid (flat_map wish_fields (take l.wish-index l.wishes))) × AllByRecursion (λ wish. wish.bis_sync < 2 ^ 32) (take l.wish-index l.wishes)

use Rattle.big_info.proofs.Prelude.{◌≤◌, ◌-◌, length, drop, arith, slice_index, drop_all, take_all, length-drop, CipherIs}
use Rattle.big_info.proofs.decode.read_info.Goals as goal
use Rattle.big_info.proofs.decode.read_info.Goals.{in-33, in-57}

pub returns-clause-layout : goal.returns-clause-layout
returns-clause-layout c =
    let from = c.args.from.now in
    let long : 33 ≤ length from = elim c.match-from.branch [ in-33 w ↦ omega (arith, w.in-33) | in-57 w ↦ omega (arith, w.in-57) ] in
    let cipher : CipherIs c.match-from.cipher (drop 33 from) =
    elim c.match-from.branch [
      | in-33 w ↦ rw w.cipher-is (drop_all 33 from (omega (arith, w.in-33)))
      | in-57 w ↦ grind (arith, take_all (length from - 33) (drop 33 from) (omega (arith, length-drop 33 from)), w.cipher-is, w.read_cipher.ensures)
    ] in (
      slice_index from 12,
      grind (arith, drop),
    )

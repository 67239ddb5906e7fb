use Rattle.iso_pdu.proofs.Prelude.{◌≡◌, ◌≤◌, ◌+◌, ◌-◌, ◌∷◌, length, take, [], set, arith, ◌∙◌, refl, take-put_mid, drop-put_mid, length-set, drop-set-lt}
use Rattle.iso_pdu.proofs.Lists.{take-set_two}
use Rattle.iso_pdu.proofs.pdu.write_payload.Goals as goal

pub returns-clause-encoded : goal.returns-clause-encoded
returns-clause-encoded c =
    let into = set (set c.args.into.now 0 c.args.llid) 1 (length c.args.payload.now) in
    let long : length into ≡ length c.args.into.now = simp length-set in
    let room : 2 ≤ length into = omega (arith, c.told-into) in
    let same : c.copy_from_slice.new.self ≡ c.args.payload.now = c.copy_from_slice.ensures.after in
    let all : 2 + length c.args.payload.now ≡ 2 + length c.copy_from_slice.new.self = rw same refl in
    let prefix : take 2 into ≡ c.args.llid ∷ length c.args.payload.now ∷ [] =
    take-set_two c.args.into.now c.args.llid (length c.args.payload.now) (omega (arith, c.told-into)) in
    take-put_mid 2 (2 + length c.args.payload.now - 2) into c.copy_from_slice.new.self (2 + length c.args.payload.now) all room
    ∙ rw (prefix, same) refl

pub returns-clause-rest : goal.returns-clause-rest
returns-clause-rest c =
    let into = set (set c.args.into.now 0 c.args.llid) 1 (length c.args.payload.now) in
    let long : length into ≡ length c.args.into.now = simp length-set in
    let room : 2 ≤ length into = omega (arith, c.told-into) in
    let same : c.copy_from_slice.new.self ≡ c.args.payload.now = c.copy_from_slice.ensures.after in
    let all : length c.copy_from_slice.new.self ≡ 2 + length c.args.payload.now - 2 = rw same (omega arith) in
    drop-put_mid 2 (2 + length c.args.payload.now - 2) into c.copy_from_slice.new.self (2 + length c.args.payload.now) (omega arith) room all
    ∙ drop-set-lt (2 + length c.args.payload.now) (set c.args.into.now 0 c.args.llid) 1 (length c.args.payload.now) (omega arith)
    ∙ drop-set-lt (2 + length c.args.payload.now) c.args.into.now 0 c.args.llid (omega arith)

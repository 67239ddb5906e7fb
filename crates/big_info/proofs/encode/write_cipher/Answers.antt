use Rattle.big_info.proofs.Prelude.{◌≡◌, ◌≤◌, length, arith, ◌∙◌, sym, take-put_mid_below, put_mid}
use Rattle.big_info.proofs.Ciphers.{cipher_behind, long_before}
use Rattle.big_info.proofs.encode.write_cipher.Goals as goal

pub returns-clause-fields : goal.returns-clause-fields
returns-clause-fields c =
    let giv : length c.copy_from_slice.new.self ≡ 8 = omega (arith, c.copy_from_slice.auto.self, c.told-into) in
    let long : 41 ≤ length (put_mid 33 8 c.args.into.now c.copy_from_slice.new.self) = long_before c.args.into.now c.copy_from_slice.new.self c.told-into giv in
    take-put_mid_below 41 16 (put_mid 33 8 c.args.into.now c.copy_from_slice.new.self) c.copy_from_slice-2.new.self 33 (omega arith) long
    ∙ take-put_mid_below 33 8 c.args.into.now c.copy_from_slice.new.self 33 (omega arith) (omega (arith, c.told-into))

pub returns-clause-cipher : goal.returns-clause-cipher
returns-clause-cipher c =
    let giv : length c.copy_from_slice.new.self ≡ 8 = omega (arith, c.copy_from_slice.auto.self, c.told-into) in
    let gskd : length c.copy_from_slice-2.new.self ≡ 16 = omega (arith, c.copy_from_slice-2.auto.self, c.told-into, c.copy_from_slice.auto.self) in
    let first : c.copy_from_slice.new.self ≡ c.args.cipher.now.giv = c.copy_from_slice.ensures.after in
    let second : c.copy_from_slice-2.new.self ≡ c.args.cipher.now.gskd = c.copy_from_slice-2.ensures.after in (
      rw (sym first) giv,
      rw (sym second) gskd,
      rw (sym first, sym second) (cipher_behind c.args.into.now c.copy_from_slice.new.self c.copy_from_slice-2.new.self c.told-into giv gskd),
    )

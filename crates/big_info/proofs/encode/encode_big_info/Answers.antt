use Rattle.big_info.proofs.Prelude.{◌≡◌, ℕ, List, length, take, drop, arith, ◌∙◌, subst, sym, length-take, drop_all, take_all, Le, Encodes, CipherIs, number_of}
use Rattle.big_info.proofs.encode.encode_big_info.Goals as goal

pub returns-in-None-clause-layout : goal.returns-in-None-clause-layout
returns-in-None-clause-layout c =
    let new = c.write_fields.new.into in
    let long : length (take 33 new) ≡ 33 = omega (arith, length-take 33 new, c.told-into) in
    record {
      widths = c.requires;
      rfu_width = omega arith;
      whole = omega (arith, long);
      fields = subst (λ (xs : List ℕ). Le (number_of c.args.info.now 0) xs) (sym (take_all 33 (take 33 new) (omega (arith, long)))) c.write_fields.ensures.number;
      cipher = rw c.in-None.is (drop_all 33 (take 33 new) (omega (arith, long)));
    }

pub returns-in-Some-clause-layout : goal.returns-in-Some-clause-layout
returns-in-Some-clause-layout c =
    let new = c.write_cipher.new.into in
    let long : length new ≡ 57 = omega (arith, c.told-into) in
    let number : Le (number_of c.args.info.now 0) (take 33 new) =
    subst (λ (xs : List ℕ). Le (number_of c.args.info.now 0) xs) (sym c.write_cipher.ensures.fields) c.write_fields.ensures.number in
    let cipher : CipherIs c.args.info.now.cipher (drop 33 new) = rw c.in-Some.is c.write_cipher.ensures.cipher in
    subst (λ (xs : List ℕ). Encodes c.args.info.now 0 xs) (sym (take_all 57 new (omega (arith, long)))) (grind arith)

pub returns-in-Some-clause-rest : goal.returns-in-Some-clause-rest
returns-in-Some-clause-rest c =
    let new = c.write_cipher.new.into in
    let long : length new ≡ 57 = omega (arith, c.told-into) in
    drop_all 57 new (omega (arith, long)) ∙ sym (drop_all 57 c.args.into.now (omega (arith, c.told-into)))

use Rattle.big_info.proofs.Prelude.{arith, ◌∙◌}
use Rattle.big_info.proofs.Ciphers.{drop_later}
use Rattle.big_info.proofs.encode.write_fields.Goals as goal

pub returns-clause-rest : goal.returns-clause-rest
returns-clause-rest c =
    c.put_word-9.ensures.rest ∙ drop_later 28 33 c.put_word-8.new.into c.put_word-7.new.into (omega arith) c.put_word-8.ensures.rest
    ∙ drop_later 23 33 c.put_word-7.new.into c.put_word-6.new.into (omega arith) c.put_word-7.ensures.rest
    ∙ drop_later 21 33 c.put_word-6.new.into c.put_word-5.new.into (omega arith) c.put_word-6.ensures.rest
    ∙ drop_later 17 33 c.put_word-5.new.into c.put_word-4.new.into (omega arith) c.put_word-5.ensures.rest
    ∙ drop_later 13 33 c.put_word-4.new.into c.put_word-3.new.into (omega arith) c.put_word-4.ensures.rest
    ∙ drop_later 8 33 c.put_word-3.new.into c.put_word-2.new.into (omega arith) c.put_word-3.ensures.rest
    ∙ drop_later 5 33 c.put_word-2.new.into c.put_word.new.into (omega arith) c.put_word-2.ensures.rest
    ∙ drop_later 4 33 c.put_word.new.into c.args.into.now (omega arith) c.put_word.ensures.rest

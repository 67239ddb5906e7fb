use Rattle.scenario_words.proofs.Prelude.{◌≡◌, ◌+◌, [], err_from_is_err_and, rising_of, arith}
use Rattle.scenario_words.proofs.Streams.{index_read, index_fails, all_read, no_words}
use Rattle.scenario_words.proofs.cursor.Cursor.rising.Goals as goal

pub returns-in_err-bis : goal.returns-in_err-bis
returns-in_err-bis c = grind (arith, err_from_is_err_and, index_fails, rising_of)

pub indices-preserved : goal.indices-preserved
indices-preserved c = grind (arith, index_read, rising_of)

pub returns : goal.returns
returns c =
    let none : c.indices.self.words ≡ [] = no_words c.indices.self.words (grind arith) in
    all_read c.indices.which (c.indices.last + 1) c.indices.self (rising_of c.args.self.now) none c.indices.invariant.rest

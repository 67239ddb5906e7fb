use Rattle.source_machine.proofs.Prelude.{without_cipher, arith}
use Rattle.source_machine.proofs.Ciphers.{is_checked, none_holds}
use Rattle.source_machine.proofs.checking.plain_group.Goals as goal

pub unwrap-requires : goal.unwrap-requires
unwrap-requires c = grind (arith, is_checked, without_cipher, none_holds)

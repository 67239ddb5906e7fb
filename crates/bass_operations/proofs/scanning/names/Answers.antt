use Rattle.std.proofs.Common.{◌≡◌, ◌-◌, sym, ◌∙◌}
use Rattle.std.proofs.lemmas.Nat.Bits.{shr_and_one}
use Rattle.std.specs.Int.{bit_at}
use Rattle.bass_operations.proofs.scanning.names.Goals as goal

pub returns-then-bits-bis-eq1 : goal.returns-then-bits-bis-eq1
returns-then-bits-bis-eq1 c =
    let set : bit_at c.args.bits (c.args.bis - 1) ≡ 1 = sym (shr_and_one c.args.bits (c.args.bis - 1)) ∙ c.if-bits-bis-eq1.true in rw set

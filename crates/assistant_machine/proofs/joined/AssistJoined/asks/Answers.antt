use Rattle.std.proofs.Common.{◌≡◌, ℕ, ◌+◌, ◌-◌, arith}
use Rattle.std.proofs.lemmas.Bool.Decides.{nat_tests}
use Rattle.std.specs.Prelude.{nat_le}
use Rattle.assistant_machine.proofs.joined.AssistJoined.asks.Goals as goal

shifted : (a b n : ℕ) → a ≡ b → nat_le a (n + 3) ≡ nat_le (b - 3) n
shifted a b n same = grind (arith, nat_tests)

pub returns-in-Some : goal.returns-in-Some
returns-in-Some c = rw (← c.self.view_is, c.in-Some.is) (shifted _ _ _ c.from.ensures)

-- An assistant that just joined a sink with so many slots and this MTU.
use Rattle.std.specs.Prelude.{ℕ, Option}
use Rattle.assistant_machine.specs.State.Assistants.{Assistant, joined}

abbrev pub joining : ℕ → Option ℕ → Assistant
joining slots mtu = record (joined slots) { mtu = mtu }

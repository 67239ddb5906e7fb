-- The numbers that the generator draws, one after the other: a linear congruential generator, which is this project's own.
use Rattle.std.specs.Prelude.{ℕ, ◌+◌, ◌*◌, ◌/◌, ◌%◌}

abbrev pub next_state : ℕ → ℕ
next_state state = (state * 1103515245 + 12345) % 2147483648

-- what a draw gives that set this state: a number from 1 to 9
abbrev pub drawn : ℕ → ℕ
drawn state = 1 + (state / 65536) % 9

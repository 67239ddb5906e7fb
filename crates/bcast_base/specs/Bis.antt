-- A set of streams as a number: bit n stands for the BIS_index n + 1, as in the BIS_Sync fields of the
-- Broadcast Audio Scan Service 1.0, section 3.1.1.4.
use Rattle.std.specs.Prelude.{ℕ, ◌-◌, ◌≡◌}
use Rattle.std.specs.Int.{bit_at}

-- the stream is in the set
abbrev pub Has : ℕ → ℕ → Type 0
Has set bis = bit_at set (bis - 1) ≡ 1

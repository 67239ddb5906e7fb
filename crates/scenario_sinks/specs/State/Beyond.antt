-- Whether a set of streams has an index that a group hasn't (Core 5.2, volume 6 part B, section 4.4.6).
use Rattle.std.specs.Prelude.{ℕ, ◌&&◌, nat_lt, Bool}
use Rattle.group_sink.specs.Streams.{is_in}

-- this index is in the set and above those of the group
abbrev pub beyond_at : ℕ → ℕ → ℕ → Bool
beyond_at num_bis which bis = is_in which bis && nat_lt num_bis bis

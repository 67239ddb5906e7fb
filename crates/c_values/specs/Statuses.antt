-- The statuses by which a call in C tells how it ended. They are this project's own.
use Rattle.std.specs.Prelude.{ℕ}

abbrev pub ok : ℕ
ok = 0

abbrev pub range : ℕ
range = 1

abbrev pub memory : ℕ
memory = 2

abbrev pub no_room : ℕ
no_room = 3

abbrev pub empty : ℕ
empty = 4

abbrev pub too_long : ℕ
too_long = 5

abbrev pub layout : ℕ
layout = 6

abbrev pub no_slot : ℕ
no_slot = 7

abbrev pub bad_notice : ℕ
bad_notice = 8

abbrev pub no_bis : ℕ
no_bis = 9

abbrev pub no_subevent : ℕ
no_subevent = 10

abbrev pub group : ℕ
group = 11

abbrev pub time_order : ℕ
time_order = 12

abbrev pub backlog : ℕ
backlog = 13

abbrev pub counter_ends : ℕ
counter_ends = 14

abbrev pub not_on_air : ℕ
not_on_air = 15

abbrev pub encrypted : ℕ
encrypted = 16

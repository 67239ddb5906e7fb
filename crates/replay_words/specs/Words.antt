-- What the words of the command line mean, by the parse of one simple command as `clap` defines it. The command is this
-- project's own.
use Rattle.std.specs.Prelude.{◌≤◌, ⊤, ℕ, Bool, true, false, List, [], ◌∷◌, Option, None, Some, codes, if◌then◌else◌, bytes_eq}
use Rattle.clap.specs.Walk.{is_empty}
use Rattle.clap.specs.Simple.{on_top}
use Rattle.clap.specs.Words.{App, Row, Rule, Text, fault_of, first_of, matches_of, new_app, new_rule, with_rule}
use Rattle.clap.specs.declared.builder.action.ArgAction.TheVariants.{Set, SetTrue}
use Rattle.scenario_words.specs.Reading.{decimal_in}
use Rattle.replay_words.specs.declared.mode.Mode.{Mode}
use Rattle.replay_words.specs.declared.mode.Mode.TheVariants.{Replay, Migrate, Toml, Generate, Usage}

-- an option that takes a value, and a flag, which takes none
abbrev pub value_option : Text → Rule
value_option name = record (new_rule name) { long = Some name; action = Some Set }

abbrev pub flag : Text → Rule
flag name = record (new_rule name) { long = Some name; action = Some SetTrue }

-- a command without help or version flags, which reads words without the program's name
abbrev pub bare_command : App
bare_command = on_top (λ top. record top { no_binary_name = true; disable_help_flag = true; disable_version_flag = true }) (new_app (codes "replay"))

abbrev pub the_command : App
the_command = with_rule (with_rule (with_rule (with_rule bare_command (value_option (codes "seed"))) (value_option (codes "events"))) (flag (codes "migrate"))) (flag (codes "toml"))

-- the value of a flag is `true` where it stands among the words, and else `false`
abbrev pub is_yes : Option Text → Bool
is_yes None = false
is_yes (Some text) = bytes_eq text (codes "true")

-- both numbers are decimals in their ranges, without a sign or a leading zero
abbrev pub generating : Option ℕ → Option ℕ → Mode
generating (Some seed) (Some events) = Generate seed events
generating _ _ = Usage

-- the numbers of a mode lie in their ranges
abbrev pub HasNumbers : Mode → Type 0
HasNumbers (Generate seed events) = (seed ≤ 2147483647) × (1 ≤ events) × (events ≤ 100000)
HasNumbers _ = ⊤

-- What the flags and the values of the options ask for: one flag stands alone, or both options do.
abbrev pub asked : Bool → Bool → Option Text → Option Text → Mode
asked true false None None = Migrate
asked false true None None = Toml
asked false false (Some seed) (Some events) = generating (decimal_in 0 2147483647 seed) (decimal_in 1 100000 events)
asked _ _ _ _ = Usage

abbrev pub asked_of : List Row → Mode
asked_of rows = asked (is_yes (first_of (codes "migrate") rows)) (is_yes (first_of (codes "toml") rows)) (first_of (codes "seed") rows) (first_of (codes "events") rows)

-- words that `clap` refuses for the command are Usage
unfoldable pub mode_by_command : List Text → Mode
mode_by_command words = if is_empty (fault_of the_command words) then asked_of (matches_of the_command words) else Usage

abbrev pub mode_of : List Text → Mode
mode_of [] = Replay
mode_of (word ∷ words) = mode_by_command (word ∷ words)

-- A line that comes again and again says its step in each version.
use Rattle.recurring_lines.proofs.Prelude.{◌≡◌, ◌≢◌, ℕ, Bool, true, false, List, [], ◌∷◌, ◌++◌, ◌-◌, length, drop, None, Some, Result, Ok, Err, refl, ap, sym, ◌∙◌, codes, arith, Step, Event, unit_row, air_row, is_in_range, ◌↔◌, Option, bytes_eq, take, IfOk, IfSome, IsTrue, take-append-drop, take_rest, bytes_eq-Decides, Left, words_of, frequent_step, LineTakes, some_takes, Frequent, IsInRange}
use Rattle.bcast_base.specs.Tries.{◌>>=◌}
use Rattle.bcast_base.specs.declared.memory.Memory.{Memory}
use Rattle.scenario_text.specs.Steps.{at_row, read_of, step_of, whole}
use Rattle.scenario_text.specs.Table.{Row, row_of}

-- the words behind the first word
abbrev pub behind_first : List ℕ → Left
behind_first words = record { words = words_of words; read = 1 }

-- ---- a first word and the words behind it

-- what is read of a line is read of the words behind the first
pub all_whole : (row : Row) (words : List ℕ) (left after : Left) (made : Step) → left ≡ behind_first words → at_row row left ≡ Ok (made, after)
    → after.words ≡ [] → ((at_row row (behind_first words) >>= whole) >>= λ step. Ok (Some step)) ≡ Ok (Some made)
all_whole row words left after made begins is none = let at = sym (ap (at_row row) begins) ∙ is in rw at (rw none refl)

pub event_read : (version : ℕ) (line : List ℕ) → bytes_eq line (codes "event") ≡ true → read_of version line ≡ Ok (Some Event)
unfolding read_of step_of row_of
event_read version line is = ap (read_of version) ((bytes_eq-Decides line (codes "event")).0 is)

-- ---- what was read

pub none_more : (words : List (List ℕ)) (more : Bool) → (IsTrue more ↔ (words ≢ [])) → more ≡ false → words ≡ []
none_more [] more h e = refl
none_more (word ∷ words) more h e = grind arith

pub unit_read : (words : List ℕ) (left after : Left) (made : Step) (more : Bool) → left ≡ behind_first words → at_row unit_row left ≡ Ok (made, after)
    → (IsTrue more ↔ (after.words ≢ [])) → more ≡ false → (version : ℕ) → read_of version (codes "unit " ++ words) ≡ Ok (Some made)
unfolding read_of step_of row_of
unit_read words left after made more begins is has none version = all_whole unit_row words left after made begins is (none_more after.words more has none)

pub air_read : (words : List ℕ) (left after : Left) (made : Step) (more : Bool) → left ≡ behind_first words → at_row air_row left ≡ Ok (made, after)
    → (IsTrue more ↔ (after.words ≢ [])) → more ≡ false → (version : ℕ) → read_of version (codes "air " ++ words) ≡ Ok (Some made)
unfolding read_of step_of row_of
air_read words left after made more begins is has none version = all_whole air_row words left after made begins is (none_more after.words more has none)

pub unit_takes : (version : ℕ) (words : List ℕ) (left : Left) → left ≡ behind_first words → some_takes unit_row.places left ≡ true
    → LineTakes version (codes "unit " ++ words)
unfolding row_of
unit_takes version words left is takes = sym (ap (some_takes unit_row.places) is) ∙ takes

pub some_in_range : (line octets : List ℕ) (found : Option Frequent)
    → IfSome found (λ frequent. (version : ℕ) → read_of version line ≡ Ok (Some (frequent_step frequent octets)))
    → IfSome found (λ frequent. IsInRange (frequent_step frequent octets))
some_in_range line octets (Some frequent) h = is_in_range 1 line (Ok (Some (frequent_step frequent octets))) (h 1)
some_in_range line octets None h = tt

pub all_in_range : (line octets : List ℕ) (r : Result (Option Frequent) Memory)
    → IfOk r (λ found. IfSome found (λ frequent. (version : ℕ) → read_of version line ≡ Ok (Some (frequent_step frequent octets))))
    → IfOk r (λ found. IfSome found (λ frequent. IsInRange (frequent_step frequent octets)))
all_in_range line octets (Ok found) h = some_in_range line octets found h
all_in_range line octets (Err e) h = tt

-- the octets with which a line begins, and those behind them
pub rest_of : (line name : List ℕ) → bytes_eq (take (length name) line) name ≡ true → name ++ take (length line - length name) (drop (length name) line) ≡ line
rest_of line name is =
    let same : take (length name) line ≡ name = (bytes_eq-Decides (take (length name) line) name).0 is in
    rw (take_rest line (length name)) (ap (λ first. first ++ drop (length name) line) (sym same) ∙ take-append-drop (length name) line)

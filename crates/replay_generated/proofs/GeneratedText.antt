-- The lines of the generated text are the generated lines: none holds the octet that ends a line, and none passes a limit.
use Rattle.replay_generated.proofs.Prelude.{◌≡◌, ℕ, zero, suc, ◌+◌, ◌*◌, ◌<◌, ◌≤◌, ◌/◌, ◌%◌, Bool, true, false, cond, not, ◌&&◌, leb, nat_eq, List, [], ◌∷◌, ◌++◌, length, map, codes, decimal, refl, ap, ◌∙◌, append_assoc, arith, length-append, append-nil, replicate, slice_index, ⊤, lt-leb, le-leb, leb-true, ne_eqb, and_parts, joined, digits, plain, too_long, past, line_limit, text_limit, lines-nothing, drawn, next_state, unit_of, head_lines, generated_lines, generated, text_of}
use Rattle.std.proofs.lemmas.Fmt.{decimal_digit}
use Rattle.hex.specs.Hex.{encode_with, encode_lower, lower_digits}
use Rattle.bcast_io.specs.TextLines.{newline, line_of, lines_from, lines_of}
use Rattle.scenario_lines.specs.Generated as made
use Rattle.scenario_lines.specs.Generated.{unit_line, air_line}

-- ---- lines of a text

-- no octet of the line ends it
abbrev Unended : List ℕ → Type 0
Unended [] = ⊤
Unended (octet ∷ line) = (nat_eq octet newline ≡ false) × Unended line

line_read : (taken : ℕ) (part line rest : List ℕ) → Unended line → taken + length line < text_limit
    → lines_from true taken part (line ++ newline ∷ rest) ≡ line_of (part ++ line) ∷ lines_from true (taken + length line + 1) [] rest
unfolding lines_from
line_read taken part [] rest none fits = grind (arith, cond, past, lt-leb, text_limit, append-nil)
line_read taken part (x ∷ line) rest none fits =
    grind (arith, lt-leb, text_limit, append_assoc, line_read (taken + 1) (part ++ x ∷ []) line rest none.1 (omega arith))

-- each line is one of a text, and has at most so many octets
abbrev AllShort : ℕ → List (List ℕ) → Type 0
AllShort most [] = ⊤
AllShort most (line ∷ lines) = (Unended line × (length line ≤ most)) × AllShort most lines

line_short : (line : List ℕ) → length line ≤ line_limit → line_of line ≡ plain line
line_short line h = ap (λ b. cond b (plain line) too_long) (le-leb (length line) line_limit h)

first_long : (line : List ℕ) (lines : List (List ℕ)) → length (text_of (line ∷ lines)) ≡ length line + (1 + length (text_of lines))
first_long line lines = length-append line (newline ∷ text_of lines) ∙ omega arith

text_read : (taken : ℕ) (lines : List (List ℕ)) → AllShort line_limit lines → taken + length (text_of lines) ≤ text_limit
    → lines_from true taken [] (text_of lines) ≡ map plain lines
text_read taken [] all fits = lines-nothing true taken
text_read taken (line ∷ lines) all fits =
    let long = first_long line lines in
    rw (
      line_read taken [] line (text_of lines) all.0.0 (omega (arith, long)),
      line_short line all.0.1,
      text_read (taken + length line + 1) lines all.1 (omega (arith, long)),
    )

-- ---- tests of closed lines

abbrev is_unended : List ℕ → Bool
is_unended [] = true
is_unended (octet ∷ line) = not (nat_eq octet newline) && is_unended line

unended : (line : List ℕ) → is_unended line ≡ true → Unended line
unended [] e = tt
unended (octet ∷ line) e = grind (arith, unended line, and_parts)

abbrev are_short : ℕ → List (List ℕ) → Bool
are_short most [] = true
are_short most (line ∷ lines) = (is_unended line && leb (length line) most) && are_short most lines

all_short : (most : ℕ) (lines : List (List ℕ)) → are_short most lines ≡ true → AllShort most lines
all_short most [] e = tt
all_short most (line ∷ lines) e = grind (arith, and_parts, leb-true, unended, all_short most lines)

unended_append : (xs ys : List ℕ) → Unended xs → Unended ys → Unended (xs ++ ys)
unended_append [] ys h k = k
unended_append (x ∷ xs) ys h k = (h.0, unended_append xs ys h.1 k)

-- ---- digits

digit_unended : (k : ℕ) → k < 16 → nat_eq (slice_index lower_digits k) newline ≡ false
digit_unended k small = grind (arith, unended)

encoded : (n v : ℕ) → v < 256 → Unended (encode_lower (replicate n v)) × (length (encode_lower (replicate n v)) ≡ 2 * n)
unfolding encode_with
encoded zero v small = (tt, refl)
encoded (suc n) v small =
    let rest = encoded n v small in
    ((digit_unended (v / 16) (omega arith), (digit_unended (v % 16) (omega arith), rest.0)), omega (arith, rest.1))

decimal_unended : (n : ℕ) → n < 10 → nat_eq (48 + n) newline ≡ false
decimal_unended n small = ne_eqb (48 + n) newline (λ same. omega (arith, same))

-- ---- the generated lines

unit_shape : (bis x : ℕ) → bis < 10 → unit_line bis x ≡ codes "unit " ++ (48 + bis) ∷ (codes " - " ++ encode_lower (unit_of x))
unfolding unit_line
unit_shape bis x small = grind (arith, joined, codes, digits, unit_of, decimal_digit, append-nil)

unit_short : (bis x : ℕ) → bis < 10 → Unended (unit_line bis x) × (length (unit_line bis x) ≡ 209)
unit_short bis x small =
    rw (unit_shape bis x small) (grind (
      arith,
      unended_append,
      unended,
      decimal_unended,
      encoded 100 (x % 256) (omega arith),
      length-append,
    ))

air_shape : (sink lose : ℕ) → sink < 10 → lose < 10 → air_line sink lose ≡ codes "air " ++ (48 + sink) ∷ 32 ∷ (48 + lose) ∷ []
unfolding air_line
air_shape sink lose small less = grind (arith, joined, codes, decimal, decimal_digit)

air_short : (sink lose : ℕ) → sink < 10 → lose < 10 → Unended (air_line sink lose) × (length (air_line sink lose) ≡ 7)
air_short sink lose small less = grind (arith, air_shape, codes, unended_append, unended, decimal_unended, length)

drawn_small : (state : ℕ) → drawn state < 10
drawn_small state = omega arith

-- the lines of the events
events_short : (state x count : ℕ) → AllShort line_limit (made.lines_from state x count) × (length (text_of (made.lines_from state x count)) ≡ 442 * count + 4)
unfolding made.lines_from
events_short state x zero = (all_short line_limit (codes "end" ∷ []) refl, refl)
events_short state x (suc count) =
    grind (
      arith,
      length-append,
      events_short (next_state (next_state state)) (x + 1) count,
      unit_short,
      air_short,
      drawn_small,
      unended (codes "event") refl,
    )

short_append : (most : ℕ) (xs ys : List (List ℕ)) → AllShort most xs → AllShort most ys → AllShort most (xs ++ ys)
short_append most [] ys h k = k
short_append most (x ∷ xs) ys h k = (h.0, short_append most xs ys h.1 k)

text_append : (xs ys : List (List ℕ)) → length (text_of (xs ++ ys)) ≡ length (text_of xs) + length (text_of ys)
text_append [] ys = omega arith
text_append (x ∷ xs) ys = omega (arith, length-append {A = ℕ}, text_append xs ys)

head_length : length (text_of head_lines) ≤ 400
head_length = leb-true (length (text_of head_lines)) 400 refl

all_fine : (seed events : ℕ) → events ≤ 100000 → AllShort line_limit (generated_lines seed events) × (length (generated seed events) ≤ text_limit)
all_fine seed events most = grind (arith, short_append, all_short, text_append, head_length, length-append, unit_short, events_short)

-- the lines of the generated text are the generated lines
pub generated_read : (seed events : ℕ) → events ≤ 100000 → lines_of true (generated seed events) ≡ map plain (generated_lines seed events)
generated_read seed events most =
    let fine = all_fine seed events most in
    text_read 0 (generated_lines seed events) fine.0 (omega (arith, fine.1))

-- ---- how many lines, and the last

lines_count : (state x count : ℕ) → length (made.lines_from state x count) ≡ 5 * count + 1
unfolding made.lines_from
lines_count state x zero = refl
lines_count state x (suc count) = omega (arith, lines_count (next_state (next_state state)) (x + 1) count)

pub generated_count : (seed events : ℕ) → events ≤ 100000 → length (generated_lines seed events) ≤ 500010
generated_count seed events most = grind (arith, length-append, head_lines, lines_count)

-- the last line is `end`
events_end : (state x count : ℕ) → (prefix : List (List ℕ)) × (made.lines_from state x count ≡ prefix ++ codes "end" ∷ [])
unfolding made.lines_from
events_end state x zero = ([], refl)
events_end state x (suc count) =
    let second = next_state (next_state state) in
    let more = events_end second (x + 1) count in (
      unit_line 1 (x + 1) ∷ unit_line 2 (x + 1) ∷ codes "event" ∷ air_line 0 (drawn (next_state state)) ∷ air_line 1
          (drawn second) ∷ more.0,
      rw more.1,
    )

pub generated_end : (seed events : ℕ) → (prefix : List (List ℕ)) × (generated_lines seed events ≡ prefix ++ codes "end" ∷ [])
generated_end seed events = let more = events_end seed 0 events in (head_lines ++ unit_line 1 0 ∷ unit_line 2 0 ∷ more.0, rw more.1)

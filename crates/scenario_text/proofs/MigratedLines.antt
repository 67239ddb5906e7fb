-- The lines of a text are the text again, and a text is migrated line by line: all stays but one digit.
use Rattle.scenario_text.proofs.Prelude.{◌≡◌, ◌≤◌, ◌<◌, ℕ, suc, Bool, true, false, cond, nat_eq, List, [], ◌∷◌, ◌+◌, ◌++◌, length, get_or, take, drop, Option, None, Some, refl, ap, sym, ◌∙◌, append_assoc, arith, eqb-true, false_from_ne_true, onto_first, lines_of, behind, text_of, lines_after, is_some, append-nil, drop-append-le, drop-drop, drop_at, length-append, length-drop, take-append-drop, take-append-le, take_at}
use Rattle.std.specs.Borrow.{Bor}
use Rattle.std.proofs.Math.Seq.{take-add}
use Rattle.scenario_text.specs.Migrated.{is_blank, migrated_line, migrated_lines, migrated}

-- ---- the first line ends at the first end of a line

pub no_end : (text : List ℕ) → ((k : ℕ) → 0 ≤ k → k < length text → nat_eq (get_or text k 0) 10 ≡ true → ⊥) → lines_of text ≡ text ∷ []
no_end [] h = refl
no_end (octet ∷ text) h = grind (arith, false_from_ne_true _ (h 0 (omega arith) (omega arith)), no_end text (λ k low high. h (suc k) (omega arith) (omega arith)))

pub first_end : (text : List ℕ) (end : ℕ) → end < length text → ((k : ℕ) → 0 ≤ k → k < end → nat_eq (get_or text k 0) 10 ≡ true → ⊥) → nat_eq (get_or text end 0) 10 ≡ true
    → lines_of text ≡ take end text ∷ lines_of (drop (suc end) text)
first_end (octet ∷ text) (suc end) inside before at = grind (arith, false_from_ne_true _ (before 0 (omega arith) (omega arith)), first_end text end (omega arith) (λ k low high. before (suc k) (omega arith) (omega arith)) at)
first_end text end inside before at = search (nat_eq, false_from_ne_true, lines_of, take, drop)

-- ---- the text again

pub onto_text : (octet : ℕ) (lines : List (List ℕ)) → text_of (onto_first octet lines) ≡ octet ∷ text_of lines
onto_text octet lines = grind arith

-- a text has a line
record Some_line (lines : List (List ℕ)) : Type 0 where
  pub first : List ℕ
  pub others : List (List ℕ)
  pub are : lines ≡ first ∷ others

onto_some : (octet : ℕ) (lines : List (List ℕ)) → Some_line (onto_first octet lines)
onto_some octet lines = grind arith

chosen_some : (b : Bool) (octet : ℕ) (text : List ℕ) → Some_line (cond b ([] ∷ lines_of text) (onto_first octet (lines_of text)))
chosen_some b octet text = grind (arith, lines_of, onto_some)

some_line : (text : List ℕ) → Some_line (lines_of text)
some_line [] = record { first = []; others = []; are = refl }
some_line (octet ∷ text) = chosen_some (nat_eq octet 10) octet text

behind_some : (lines : List (List ℕ)) → Some_line lines → behind lines ≡ 10 ∷ text_of lines
behind_some lines some = rw some.are refl

chosen_text : (b : Bool) (octet : ℕ) (text : List ℕ) → nat_eq octet 10 ≡ b → text_of (lines_of text) ≡ text
    → text_of (cond b ([] ∷ lines_of text) (onto_first octet (lines_of text))) ≡ octet ∷ text
chosen_text b octet text e rest = grind (arith, behind_some, lines_of, some_line, text_of, eqb-true, onto_text)

pub text_again : (text : List ℕ) → text_of (lines_of text) ≡ text
text_again [] = refl
text_again (octet ∷ text) = chosen_text (nat_eq octet 10) octet text refl (text_again text)

-- a text, by its first line and those behind it
by_first : (text line : List ℕ) (lines : List (List ℕ)) → lines_of text ≡ line ∷ lines → text ≡ line ++ behind lines
by_first text line lines split = sym (text_again text) ∙ ap text_of split

-- ---- line by line

first_migrated : (text line : List ℕ) (lines : List (List ℕ)) → lines_of text ≡ line ∷ lines → is_blank line ≡ false → migrated text ≡ migrated_line line ++ behind lines
unfolding migrated
first_migrated text line lines split first = rw (split, first) refl

some_migrated : (lines : List (List ℕ)) → Some_line lines → Some_line (migrated_lines lines)
some_migrated lines some = grind arith

-- a blank line stays, and what follows it is migrated
blank_last : (text line : List ℕ) → lines_of text ≡ line ∷ [] → is_blank line ≡ true → migrated text ≡ line
unfolding migrated
blank_last text line split blank = rw (split, blank) (append-nil line)

blank_first : (text line rest : List ℕ) → lines_of text ≡ line ∷ lines_of rest → is_blank line ≡ true → migrated text ≡ line ++ 10 ∷ migrated rest
unfolding migrated
blank_first text line rest split blank = grind (arith, behind_some, lines_of, some_migrated, some_line)

-- so much of a text stays, and what follows it is migrated by itself
pub record StartsAt (text : List ℕ) (start : ℕ) : Type 0 where
  pub within : start ≤ length text
  pub stays : migrated text ≡ take start text ++ migrated (drop start text)

module _ (text : List ℕ) (start : ℕ) (line : List ℕ) (begun : StartsAt text start) where
  abbrev pub left : List ℕ
  left = drop start text

  all_stays : migrated left ≡ left → migrated text ≡ text
  all_stays same = begun.stays ∙ (ap (λ (l : List ℕ). take start text ++ l) same ∙ take-append-drop start text)

  -- a blank line is the last
  pub ends_blank : (rest : Option (Bor (List ℕ))) → lines_of left ≡ line ∷ lines_after rest → is_blank line ≡ true → is_some rest ≡ false → migrated text ≡ text
  ends_blank None split blank none = all_stays (blank_last left line split blank ∙ sym (by_first left line [] split ∙ append-nil line))
  ends_blank (Some rest) split blank none = cc

  -- lines go on behind a blank one
  behind_blank : (rest : List ℕ) → lines_of left ≡ line ∷ lines_of rest → is_blank line ≡ true → StartsAt text (start + (length line + 1))
  behind_blank rest split blank =
      let n = length line + 1 in
      let ended = line ++ 10 ∷ [] in
      let octets : left ≡ ended ++ rest =
      by_first left line (lines_of rest) split
      ∙ (ap (λ (l : List ℕ). line ++ l) (behind_some (lines_of rest) (some_line rest) ∙ ap (λ (l : List ℕ). 10 ∷ l) (text_again rest)) ∙ sym (append_assoc line (10 ∷ []) rest)) in
      let long : length ended ≡ n = length-append line (10 ∷ []) in
      let took : take (start + n) text ≡ take start text ++ ended =
      take-add start n text ∙ ap (λ (l : List ℕ). take start text ++ l) (ap (take n) octets ∙ take_at ended rest n long) in
      let dropped : drop (start + n) text ≡ rest = sym (drop-drop n start text) ∙ (ap (drop n) octets ∙ drop_at ended rest n long) in
      record {
        within = omega (arith, begun.within, long, ap length octets, length-append ended rest, length-drop start text);
        stays =
            begun.stays
            ∙ (ap (λ (l : List ℕ). take start text ++ l) (blank_first left line rest split blank ∙ sym (append_assoc line (10 ∷ []) (migrated rest)))
            ∙ (sym (append_assoc (take start text) ended (migrated rest)) ∙ sym (rw (took, dropped) refl)));
      }

  pub goes_on : (rest : Option (Bor (List ℕ))) → lines_of left ≡ line ∷ lines_after rest → is_blank line ≡ true → is_some rest ≡ true → StartsAt text (start + (length line + 1))
  goes_on None split blank some = cc
  goes_on (Some rest) split blank some = behind_blank rest.now split blank

  module _ (lines : List (List ℕ)) (split : lines_of left ≡ line ∷ lines) (first : is_blank line ≡ false) where
    -- the first line that is not blank is no line of version 1
    pub ends_same : migrated_line line ≡ line → migrated text ≡ text
    ends_same same =
        all_stays (first_migrated left line lines split first ∙ (ap (λ (l : List ℕ). l ++ behind lines) same ∙ sym (by_first left line lines split)))

    -- it is one, with its digit at this place
    module _ (at : ℕ) (within : at < length line) where
      around : (digit : ℕ) → take start text ++ ((take at line ++ digit ∷ drop (at + 1) line) ++ behind lines) ≡ take (start + at) text ++ digit ∷ drop (start + at + 1) text
      around digit =
          let octets = by_first left line lines split in
          let took : take (start + at) text ≡ take start text ++ take at line =
          take-add start at text ∙ ap (λ (l : List ℕ). take start text ++ l) (ap (take at) octets ∙ take-append-le at line (behind lines) (omega arith)) in
          let dropped : drop (start + at + 1) text ≡ drop (at + 1) line ++ behind lines =
          ap (λ (k : ℕ). drop k text) (omega arith) ∙ (sym (drop-drop (at + 1) start text) ∙ (ap (drop (at + 1)) octets ∙ drop-append-le (at + 1) line (behind lines) (omega arith))) in
          rw (took, dropped) (simp append_assoc)

      pub place_within : start + at < length text
      place_within = omega (arith, begun.within, length-drop start text, ap length (by_first left line lines split), length-append line (behind lines))

      pub digit_before : line ≡ take at line ++ 49 ∷ drop (at + 1) line → text ≡ take (start + at) text ++ 49 ∷ drop (start + at + 1) text
      digit_before one =
          sym (take-append-drop start text)
          ∙ (ap (λ (l : List ℕ). take start text ++ l) (by_first left line lines split ∙ ap (λ (l : List ℕ). l ++ behind lines) one) ∙ around 49)

      pub digit_after : migrated_line line ≡ take at line ++ 50 ∷ drop (at + 1) line → migrated text ≡ take (start + at) text ++ 50 ∷ drop (start + at + 1) text
      digit_after two =
          begun.stays
          ∙ (ap (λ (l : List ℕ). take start text ++ l) (first_migrated left line lines split first ∙ ap (λ (l : List ℕ). l ++ behind lines) two) ∙ around 50)

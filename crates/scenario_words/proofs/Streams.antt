-- Sets of streams bit by bit, and the indices that are left of a line.
use Rattle.scenario_words.proofs.Prelude.{◌≡◌, ◌≢◌, ◌≤◌, ◌<◌, ◌↔◌, ℕ, ◌+◌, ◌-◌, ◌^◌, max, List, [], ◌∷◌, Option, Some, Result, Ok, Err, refl, ap, sym, ◌∙◌, arith, inl, inr, bit_or, bit_at, cases_eq, bit_at_or, bit_at-pow_same, bit_at-pow_other, bit_at-lt, same_from_bits, LineFault, BadLine, ◌>>=◌, FindsOrWants, Left, next_of, next, taken, with_stream}
use Rattle.bcast_base.specs.Bis.{Has}
use Rattle.scenario_words.specs.Reading.{decimal_in, streams_of}

or_zero : (a : ℕ) → max a 0 ≡ a
or_zero a = omega arith

or_one : (a : ℕ) → a < 2 → max a 1 ≡ 1
or_one a h = omega arith

both_ways : (a b : ℕ) → a < 2 → b < 2 → (a ≡ 1 → b ≡ 1) → (b ≡ 1 → a ≡ 1) → a ≡ b
both_ways a b ha hb there back = grind (arith, cases_eq)

same_bits : (set bis r : ℕ) → 1 ≤ bis → Has r bis → ((b : ℕ) → 1 ≤ b → b ≢ bis → (Has r b ↔ Has set b)) → (i : ℕ) → bit_at r i ≡ bit_at (bit_or set (2 ^ (bis - 1))) i
same_bits set bis r least has others i = elim (cases_eq i (bis - 1)) [
  | inl this ↦ grind (arith, bit_at, bit_or, bit_at_or, max, bit_at-pow_same, or_one, bit_at-lt)
  | inr other ↦
      let kept = others (i + 1) (omega arith) (λ e. other (omega arith)) in
      let place : i + 1 - 1 ≡ i = omega arith in
      let same : bit_at r i ≡ bit_at set i = grind (arith, both_ways, bit_at, bit_at-lt) in
      same ∙ sym (bit_at_or set (2 ^ (bis - 1)) i ∙ (ap (max (bit_at set i)) (bit_at-pow_other (bis - 1) i other) ∙ or_zero (bit_at set i)))
]

pub one_more_stream : (set bis r : ℕ) → 1 ≤ bis → Has r bis → ((b : ℕ) → 1 ≤ b → b ≢ bis → (Has r b ↔ Has set b)) → r ≡ with_stream set bis
one_more_stream set bis r least has others = same_from_bits r (with_stream set bis) (same_bits set bis r least has others)

abbrev go_on : ℕ → ℕ × Left → Result (ℕ × Left) LineFault
go_on set n = streams_of (with_stream set n.0) (n.0 + 1) n.1.read n.1.words

one_word : (set read : ℕ) (words : List (List ℕ)) (found : Option ℕ)
    → (taken read words found >>= λ n. streams_of (with_stream set n.0) (n.0 + 1) (read + 1) words) ≡ (taken read words found >>= go_on set)
one_word set read words found = grind arith

streams_next : (set least read : ℕ) (words : List (List ℕ)) → words ≢ [] → streams_of set least read words ≡ (next_of (decimal_in least 31) read words >>= go_on set)
unfolding streams_of
streams_next set least read words some = grind (arith, one_word)

-- the next index fits
pub index_read : (set least bis : ℕ) (old new : Left) (whole : Result (ℕ × Left) LineFault) → old.words ≢ [] → next (decimal_in least 31) old ≡ Ok (bis, new)
    → streams_of set least old.read old.words ≡ whole → streams_of (with_stream set bis) (bis + 1) new.read new.words ≡ whole
index_read set least bis old new whole some e so_far = grind (arith, streams_next)

-- or it doesn't
pub fails_so : {A B : Type 0} (found : Option LineFault) (read : Result A LineFault) (whole : Result B LineFault) (f : A → Result B LineFault) → FindsOrWants found read → (read >>= f) ≡ whole
    → FindsOrWants found whole
fails_so found read whole f h e = grind arith

pub index_fails : (set least n : ℕ) (old : Left) (whole : Result (ℕ × Left) LineFault) → old.words ≢ [] → next (decimal_in least 31) old ≡ Err (BadLine n)
    → streams_of set least old.read old.words ≡ whole → whole ≡ Err (BadLine n)
index_fails set least n old whole some h so_far = fails_so (Some (BadLine n)) (next (decimal_in least 31) old) whole (go_on set) h (sym (streams_next set least old.read old.words some) ∙ so_far)

-- no index is left
all_read_of : (set least read : ℕ) (words : List (List ℕ)) → words ≡ [] → streams_of set least read words ≡ Ok (set, record { words = words; read = read })
unfolding streams_of
all_read_of set least read words e = grind arith

pub all_read : (set least : ℕ) (old : Left) (whole : Result (ℕ × Left) LineFault) → old.words ≡ [] → streams_of set least old.read old.words ≡ whole → whole ≡ Ok (set, old)
all_read set least old whole none so_far = sym so_far ∙ all_read_of set least old.read old.words none

pub no_words : (words : List (List ℕ)) → (words ≢ [] → ⊥) → words ≡ []
no_words [] h = refl
no_words (word ∷ words) h = absurd (h (λ e. cc))
